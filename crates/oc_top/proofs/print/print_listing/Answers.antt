use Rattle.oc_isa.specs.Listing.{listing_text}
use Rattle.oc_command.specs.Sinks.{writes}
use Rattle.oc_top.proofs.Printing.{code_printed}
use Rattle.oc_top.proofs.print.print_listing.Goals as goal

pub returns-in-Ok-clause-printed : goal.returns-in-Ok-clause-printed
returns-in-Ok-clause-printed g c = code_printed (writes g.O.Sink.took g.O.Sink.held g.O.Sink.faults _ _) _ _ listing_text c.in-Ok.image c.in-Ok.ensures.built c.put_listing.ensures.written
