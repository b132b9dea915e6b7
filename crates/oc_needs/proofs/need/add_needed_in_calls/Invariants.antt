use Rattle.std.proofs.Common.{◌≡◌, ◌++◌, map, drop}
use Rattle.oc_effects.specs.View.{effect_view}
use Rattle.oc_needs.specs.Code.{needed_in_calls}
use Rattle.oc_needs.specs.CodeView.{rows_view}
use Rattle.oc_needs.proofs.need.add_needed_in_calls.Given as goal

abbrev pub invariant-loop-effect : goal.invariant-loop-effect
invariant-loop-effect l =
    l.needing.items ++ needed_in_calls (rows_view l.rows) l.variables (map effect_view (drop l.effect-index l.effects))
    ≡ l.initial.needing.items ++ needed_in_calls (rows_view l.rows) l.variables (map effect_view l.effects)
