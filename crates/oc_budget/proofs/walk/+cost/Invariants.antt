use Rattle.std.proofs.Common.{◌≡◌, ◌+◌, drop}
use Rattle.oc_tree.specs.View.{block_view, stmts_view}
use Rattle.oc_budget.specs.Costs.{is_use}
use Rattle.oc_tree.specs.Costs.{block_cost, stmts_cost}
use Rattle.oc_budget.proofs.walk.+cost.Given as goal

abbrev pub invariant-block_cost-loop-statement : goal.invariant-block_cost-loop-statement
invariant-block_cost-loop-statement l =
    l.cost + stmts_cost l.known.program.functions (is_use l.known.program) l.known.regions l.costs (stmts_view (drop l.statement-index l.statement-items))
    ≡ block_cost l.known.program.functions (is_use l.known.program) l.known.regions l.costs (block_view l.block)
