use Rattle.std.proofs.Common.{◌≡◌, ◌++◌, map, drop}
use Rattle.oc_effects.specs.View.{effect_view}
use Rattle.oc_needs.specs.Code.{annotated_by}
use Rattle.oc_needs.proofs.asked.annotated_by.Given as goal

abbrev pub invariant-loop-effect : goal.invariant-loop-effect
invariant-loop-effect l =
    l.annotated.items ++ annotated_by l.kind (map effect_view (drop l.effect-index l.effects)) ≡ annotated_by l.kind (map effect_view l.effects)
