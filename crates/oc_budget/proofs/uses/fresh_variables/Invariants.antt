use Rattle.std.proofs.Common.{◌≡◌, ◌||◌, drop, map}
use Rattle.std.specs.List.{list_any}
use Rattle.oc_tree.specs.declared.tree.VarId.{VarId}
use Rattle.oc_effects.specs.View.{effect_view}
use Rattle.oc_flow.specs.Variables.{same_variable}
use Rattle.oc_budget.specs.Costs.{is_fresh_note}
use Rattle.oc_budget.proofs.uses.fresh_variables.Given as goal

abbrev pub invariant-loop-effect : goal.invariant-loop-effect
invariant-loop-effect l =
    (v : VarId) → (list_any (same_variable v) l.fresh.items || list_any (λ b. is_fresh_note v b.note) (map effect_view (drop l.effect-index l.effects)))
    ≡ list_any (λ b. is_fresh_note v b.note) (map effect_view l.effects)
