use Rattle.oc_io.proofs.Putting.{first_failed, then_put}
use Rattle.oc_command.proofs.answer.put_all.Goals as goal

pub returns-in-Err : goal.returns-in-Err
returns-in-Err g c = first_failed g.E.Sink.took g.E.Sink.faults _ c.in-Err.ensures

pub returns : goal.returns
returns g c = then_put g.E.Sink.took g.E.Sink.faults g.met.E.Sink.took_both c.in_default.ensures c.put_told.ensures
