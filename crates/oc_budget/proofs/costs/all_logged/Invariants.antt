use Rattle.std.proofs.Common.{◌≡◌, ◌++◌, drop, map, sum_by}
use Rattle.oc_budget.specs.Budgets.{target_words}
use Rattle.oc_budget.proofs.costs.all_logged.Given as goal

abbrev pub invariant-loop-list : goal.invariant-loop-list
invariant-loop-list l =
    l.logged.items ++ map (λ v. sum_by target_words v.items) (drop l.list-index l.targets) ≡ map (λ v. sum_by target_words v.items) l.targets
