use Rattle.std.proofs.Common.{◌≡◌, ◌≤◌, ◌+◌, drop, map}
use Rattle.oc_tree.specs.View.{block_view, function_view, stmts_view}
use Rattle.oc_tree.specs.Weight.{block_cost, stmts_cost}
use Rattle.oc_weight.specs.Capped.{capped}
use Rattle.oc_weight.proofs.cost.+cost.Given as goal

abbrev pub invariant-block_cost-loop-statement : goal.invariant-block_cost-loop-statement
invariant-block_cost-loop-statement l = record {
  cost : capped (l.cost + stmts_cost (map function_view l.functions) l.weights (stmts_view (drop l.statement-index l.statement-items)))
      ≡ capped (block_cost (map function_view l.functions) l.weights (block_view l.block));
  small : l.cost ≤ 4294967297;
}
