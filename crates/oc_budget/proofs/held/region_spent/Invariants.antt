use Rattle.std.proofs.Common.{◌≡◌, ◌+◌, drop, map}
use Rattle.oc_tree.specs.View.{function_view}
use Rattle.oc_tree.specs.Marked.{is_in_region}
use Rattle.oc_tree.specs.Regions.{region_view}
use Rattle.oc_budget.specs.Budgets.{held_cost}
use Rattle.oc_tree.specs.Picked.{functions_spent}
use Rattle.oc_budget.proofs.held.region_spent.Given as goal

abbrev pub invariant-loop-place : goal.invariant-loop-place
invariant-loop-place l =
    l.spent + functions_spent (is_in_region l.known.program (region_view l.region)) (held_cost l.known) (map function_view (drop l.place l.functions))
    ≡ functions_spent (is_in_region l.known.program (region_view l.region)) (held_cost l.known) l.known.program.functions
