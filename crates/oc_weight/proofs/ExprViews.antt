-- What is seen of an operator with its sides, the variant 6 of an expression.
use Rattle.std.proofs.Common.{◌≡◌}
use Rattle.std.specs.Global.{Box}
use borrow.Enum.Known
use denote.Hole.Carrier
use Rattle.oc_tree.specs.Tree.{TArg, TExpr, TCall, binary}
use Rattle.oc_tree.specs.View.{expr_view, arg_step, expr_step, call_step}
use Rattle.oc_tree.specs.contracts.tree.Expr as variants
use Rattle.oc_tree.specs.declared.tree.Arg.TheOpen.{Expr-F}
use Rattle.oc_tree.specs.declared.tree.BinaryOp.{BinaryOp}
use Rattle.oc_tree.specs.declared.tree.Expr as X
use Rattle.oc_tree.specs.declared.tree.Expr.{Expr, fold-roll-Expr}

pub binary_seen : (op : BinaryOp) (left right : Box Expr) → expr_view (Known.at variants.enum 6 (op, (left, (right, tt)))) ≡ binary op (expr_view left.value) (expr_view right.value)
unfolding X.roll-Expr denote.Hole.Carrier.roll
binary_seen op left right = fold-roll-Expr TArg TExpr TCall arg_step expr_step call_step (Expr-F.Binary op left right)
