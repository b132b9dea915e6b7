use Rattle.std.proofs.Common.{◌≡◌, ◌||◌, ℕ, false, drop}
use Rattle.std.specs.List.{list_any}
use Rattle.std.proofs.Math.ListN.{get_or}
use Rattle.oc_effects.specs.Effects.{effects}
use Rattle.oc_budget.specs.Costs.{is_use, uses_in}
use Rattle.oc_budget.proofs.uses.use_table.Given as goal

abbrev pub invariant-loop-function : goal.invariant-loop-function
invariant-loop-function l =
    (s : ℕ) → (list_any (uses_in s) (drop l.function (effects l.effects.program)) || get_or l.uses.items s false) ≡ is_use l.effects.program s
