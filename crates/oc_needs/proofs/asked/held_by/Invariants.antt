use Rattle.std.proofs.Common.{◌≡◌, ◌++◌, map, drop}
use Rattle.oc_effects.specs.View.{effect_view}
use Rattle.oc_needs.specs.Code.{held_by}
use Rattle.oc_needs.proofs.asked.held_by.Given as goal

abbrev pub invariant-loop-effect : goal.invariant-loop-effect
invariant-loop-effect l =
    l.held.items ++ held_by l.kind (map effect_view (drop l.effect-index l.effects)) ≡ held_by l.kind (map effect_view l.effects)
