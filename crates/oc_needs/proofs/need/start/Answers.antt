use Rattle.oc_needs.specs.Code.{no_row}
use Rattle.oc_needs.proofs.Froms.{push_view_more}
use Rattle.oc_needs.proofs.need.start.Goals as goal

pub loop-function-preserved : goal.loop-function-preserved
loop-function-preserved c =
    push_view_more (λ v. v.items) no_row c.loop-function._function c.loop-function.rows.items _ c.new.result c.loop-function.invariant c.in_ok-push.ensures.items c.new.ensures.items
