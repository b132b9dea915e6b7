use Rattle.std.proofs.Common.{◌≡◌, ◌≤◌, ◌+◌, drop}
use Rattle.oc_tree.specs.View.{args_view}
use Rattle.oc_tree.specs.Weight.{args_cost}
use Rattle.oc_weight.specs.Capped.{capped}
use Rattle.oc_weight.proofs.cost.args_cost.Given as goal

abbrev pub invariant-loop-arg : goal.invariant-loop-arg
invariant-loop-arg l = record {
  cost : capped (l.cost + args_cost (args_view (drop l.arg-index l.args))) ≡ capped (args_cost (args_view l.args));
  small : l.cost ≤ 4294967297;
}
