use Rattle.std.proofs.Common.{◌≡◌, ◌++◌, drop, map}
use Rattle.oc_tree.specs.Regions.{region_view}
use Rattle.oc_budget.specs.Budgets.{budget, limited, logged}
use Rattle.oc_budget.proofs.costs.all_budgets.Given as goal

abbrev pub invariant-loop-i : goal.invariant-loop-i
invariant-loop-i l = record {
  budgets : l.budgets.items ++ map limited (map (budget l.known) (map region_view (drop l.i l.regions))) ≡ map limited (map (budget l.known) l.known.regions);
  words : drop l.i l.words ≡ map (logged l.known.program) (map region_view (drop l.i l.regions));
}
