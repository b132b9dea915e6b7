use Rattle.std.proofs.Common.{◌≡◌, ◌++◌, map, drop}
use Rattle.oc_effects.specs.View.{effect_view}
use Rattle.oc_regcheck.specs.Inputs.{call_ways}
use Rattle.oc_needs.specs.CodeView.{rows_view}
use Rattle.oc_regcheck.proofs.inputs.add_calls.Given as goal

abbrev pub invariant-loop-effect : goal.invariant-loop-effect
invariant-loop-effect l =
    l.all.items ++ call_ways l.body.summaries.now.program l.body.function (rows_view l.rows) l.sites (map effect_view (drop l.effect-index l.effects))
    ≡ l.initial.all.items ++ call_ways l.body.summaries.now.program l.body.function (rows_view l.rows) l.sites (map effect_view l.effects)
