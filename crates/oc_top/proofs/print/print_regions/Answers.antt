use Rattle.oc_command.specs.Sinks.{writes}
use Rattle.oc_top.proofs.Printing.{regions_printed}
use Rattle.oc_top.proofs.print.print_regions.Goals as goal

pub returns-in-Ok-clause-printed : goal.returns-in-Ok-clause-printed
returns-in-Ok-clause-printed g c = regions_printed (writes g.O.Sink.took g.O.Sink.held g.O.Sink.faults _ _) _ _ c.in-Ok.told c.in-Ok.ensures.told c.put_told.ensures.written
