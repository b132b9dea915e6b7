use Rattle.oc_tree.specs.View.{kind_view, right_view}
use Rattle.oc_judge.proofs.Taking.{takes_right}
use Rattle.oc_judge.proofs.work.find_value.Goals as goal

pub returns-in-Some : goal.returns-in-Some
returns-in-Some c =
    takes_right c.args.scope.now c.args.store.now (kind_view c.args.kind.now) (right_view c.in-Some.side.now) c.right_value.result c.in-Some.ensures c.right_value.ensures
