use Rattle.std.proofs.Common.{◌≡◌, ◌+◌, drop}
use Rattle.oc_tree.specs.View.{args_view}
use Rattle.oc_tree.specs.Weight.{args_cost}
use Rattle.oc_budget.proofs.exprs.args_cost.Given as goal

abbrev pub invariant-loop-arg : goal.invariant-loop-arg
invariant-loop-arg l = l.cost + args_cost (args_view (drop l.arg-index l.args)) ≡ args_cost (args_view l.args)
