use Rattle.oc_interpreter.proofs.TraceLaws.{tells_more}
use Rattle.oc_interpreter.proofs.trace.split.Goals as goal

pub loop-event-preserved : goal.loop-event-preserved
loop-event-preserved c = tells_more c.loop-event.yielded c.in-Some.event _ _ _ _ c.loop-event.invariant c.in_ok-add.ensures
