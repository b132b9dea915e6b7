use Rattle.oc_needs.specs.Code.{local_at}
use Rattle.oc_needs.specs.CodeView.{local_view}
use Rattle.oc_needs.proofs.Froms.{push_view_more}
use Rattle.oc_needs.proofs.local.locals.Goals as goal

pub loop-function-preserved : goal.loop-function-preserved
loop-function-preserved c =
    push_view_more local_view (local_at c.args.summaries.now.program) c.loop-function.function c.loop-function.locals.items _ c.in_ok-local.local c.loop-function.invariant
    c.in_ok-push.ensures.items c.in_ok-local.ensures
