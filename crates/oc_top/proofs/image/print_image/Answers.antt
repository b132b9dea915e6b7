use Rattle.oc_isa.specs.Bytes.{image_bytes}
use Rattle.oc_command.specs.Sinks.{writes}
use Rattle.oc_top.proofs.Imaging.{small_built}
use Rattle.oc_top.proofs.Printing.{code_printed}
use Rattle.oc_top.proofs.image.print_image.Goals as goal

pub put_image-requires : goal.put_image-requires
put_image-requires g c = small_built c.images_are_small.ensures _ c.in-Ok.image c.requires c.in-Ok.ensures.built

pub returns-in-Ok-clause-printed : goal.returns-in-Ok-clause-printed
returns-in-Ok-clause-printed g c = code_printed (writes g.O.Sink.took g.O.Sink.held g.O.Sink.faults _ _) _ _ image_bytes c.in-Ok.image c.in-Ok.ensures.built c.put_image.ensures.written
