use Rattle.std.proofs.Common.{refl}
use Rattle.oc_top.proofs.Asking.{not_executed, not_fetched, was_executed}
use Rattle.oc_command.proofs.Taking.{untouched}
use Rattle.oc_top.proofs.exec.exec.Goals as goal

pub returns-in-Ok-prepare_image-clause-comes : goal.returns-in-Ok-prepare_image-clause-comes
returns-in-Ok-prepare_image-clause-comes g c = was_executed _ _ refl _ c.in-Ok.ensures.files c.in-Ok.ensures.asked _ _ _ _ c.in-Ok-prepare_image.ensures.ready c.report.ensures.written

pub returns-clause-comes : goal.returns-clause-comes
returns-clause-comes g c = not_executed _ _ refl _ c.in-Ok.ensures.files c.in-Ok.ensures.asked _ c.in-Err-prepare_image.ensures.refused (untouched g.O.Sink.took g.O.Sink.held g.O.Sink.faults g.met.O.Sink.took_nothing _)

pub returns-in-Err-clause-comes : goal.returns-in-Err-clause-comes
returns-in-Err-clause-comes g c = not_fetched _ _ refl _ c.in-Err.ensures.refused (untouched g.O.Sink.took g.O.Sink.held g.O.Sink.faults g.met.O.Sink.took_nothing _)
