use Rattle.oc_top.proofs.Drilling.{not_ready, was_ready}
use Rattle.oc_command.proofs.Taking.{untouched}
use Rattle.oc_top.proofs.drill.run_files.Goals as goal

pub returns-in-Ok : goal.returns-in-Ok
returns-in-Ok g c = was_ready _ _ _ _ _ _ _ c.in-Ok.ensures.ready c.report.ensures.written

pub returns-in-Err : goal.returns-in-Err
returns-in-Err g c = not_ready _ _ _ _ c.in-Err.ensures.refused (untouched g.O.Sink.took g.O.Sink.held g.O.Sink.faults g.met.O.Sink.took_nothing _)
