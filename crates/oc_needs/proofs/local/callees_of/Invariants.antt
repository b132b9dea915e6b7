use Rattle.std.proofs.Common.{◌≡◌, ◌++◌, map, drop}
use Rattle.oc_effects.specs.View.{effect_view}
use Rattle.oc_needs.specs.Code.{callees}
use Rattle.oc_needs.proofs.local.callees_of.Given as goal

abbrev pub invariant-loop-effect : goal.invariant-loop-effect
invariant-loop-effect l = l.callees.items ++ callees (map effect_view (drop l.effect-index l.effects)) ≡ callees (map effect_view l.effects)
