use Rattle.std.proofs.Common.{◌≡◌, drop}
use Rattle.oc_budget.specs.Budgets.{greatest}
use Rattle.oc_budget.proofs.costs.greatest.Given as goal

abbrev pub invariant-loop-budget : goal.invariant-loop-budget
invariant-loop-budget l = greatest l.most (drop l.budget-index l.budgets) ≡ greatest 0 l.budgets
