use Rattle.std.proofs.Common.{◌≡◌, ◌++◌, map, drop}
use Rattle.oc_effects.specs.View.{effect_view}
use Rattle.oc_flow.specs.Known.{declared_of}
use Rattle.oc_flow.proofs.functions.add_declared.Given as goal

abbrev pub invariant-loop-effect : goal.invariant-loop-effect
invariant-loop-effect l = l.variables.items ++ declared_of (map effect_view (drop l.effect-index l.effects)) ≡ l.fn.variables.items ++ declared_of (map effect_view l.effects)
