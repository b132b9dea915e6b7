use Rattle.oc_top.specs.Judged.{not_safe}
use Rattle.oc_command.proofs.Taking.{untouched}
use Rattle.oc_top.proofs.check.check_source.Goals as goal

pub returns-in-Err-clause-checked : goal.returns-in-Err-clause-checked
returns-in-Err-clause-checked g c = not_safe c.in-Err.ensures.refused (untouched g.O.Sink.took g.O.Sink.held g.O.Sink.faults g.met.O.Sink.took_nothing _)
