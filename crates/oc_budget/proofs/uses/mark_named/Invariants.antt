use Rattle.std.proofs.Common.{◌≡◌, ◌||◌, ◌&&◌, ℕ, false, drop, map}
use Rattle.std.specs.Prelude.{nat_eq}
use Rattle.std.specs.List.{list_any}
use Rattle.std.proofs.Math.ListN.{get_or}
use Rattle.oc_effects.specs.View.{effect_view}
use Rattle.oc_flow.specs.Variables.{same_variable}
use Rattle.oc_budget.proofs.uses.mark_named.Given as goal

abbrev pub invariant-loop-effect : goal.invariant-loop-effect
invariant-loop-effect l =
    (s : ℕ) → (list_any (λ a. nat_eq a.stmt s && list_any (λ v. list_any (same_variable v) l.fresh) a.named) (map effect_view (drop l.effect-index l.effects)) || get_or
    l.uses.items s false) ≡ (list_any (λ a. nat_eq a.stmt s && list_any (λ v. list_any (same_variable v) l.fresh) a.named) (map effect_view l.effects) || get_or l.initial.uses.items s false)
