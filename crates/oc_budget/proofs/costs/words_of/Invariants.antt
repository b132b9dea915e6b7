use Rattle.std.proofs.Common.{◌≡◌, take, sum_by}
use Rattle.oc_budget.specs.Budgets.{target_words}
use Rattle.oc_budget.proofs.costs.words_of.Given as goal

abbrev pub invariant-loop-target : goal.invariant-loop-target
invariant-loop-target l = l.words ≡ sum_by target_words (take l.target-index l.targets)
