use Rattle.std.proofs.Common.{◌≡◌, ◌++◌, map, drop}
use Rattle.oc_effects.specs.View.{effect_view}
use Rattle.oc_needs.specs.Code.{declared_by}
use Rattle.oc_needs.proofs.local.add_declared.Given as goal

abbrev pub invariant-loop-effect : goal.invariant-loop-effect
invariant-loop-effect l =
    l.variables.items ++ declared_by (map effect_view (drop l.effect-index l.effects)) ≡ l.initial.variables.items ++ declared_by (map effect_view l.effects)
