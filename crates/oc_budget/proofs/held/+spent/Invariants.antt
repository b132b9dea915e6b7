use Rattle.std.proofs.Common.{◌≡◌, ◌+◌, drop}
use Rattle.oc_tree.specs.View.{block_view, stmts_view}
use Rattle.oc_tree.specs.Marked.{is_in_region}
use Rattle.oc_tree.specs.Regions.{region_view}
use Rattle.oc_budget.specs.Budgets.{held_cost}
use Rattle.oc_tree.specs.Picked.{block_spent, stmts_spent}
use Rattle.oc_budget.proofs.held.+spent.Given as goal

abbrev pub invariant-block_spent-loop-statement : goal.invariant-block_spent-loop-statement
invariant-block_spent-loop-statement l =
    l.spent + stmts_spent (is_in_region l.known.program (region_view l.region)) (held_cost l.known) (stmts_view (drop l.statement-index l.statement-items))
    ≡ block_spent (is_in_region l.known.program (region_view l.region)) (held_cost l.known) (block_view l.block)
