use Rattle.std.proofs.Common.{◌≡◌, ◌++◌, map, drop}
use Rattle.oc_effects.specs.View.{effect_view}
use Rattle.oc_needs.specs.Code.{sources}
use Rattle.oc_needs.specs.CodeView.{source_view}
use Rattle.oc_needs.proofs.local.sources_of.Given as goal

abbrev pub invariant-loop-effect : goal.invariant-loop-effect
invariant-loop-effect l =
    map source_view l.sources.items ++ sources l.summaries.program l.function (map effect_view (drop l.effect-index l.effect-items))
    ≡ sources l.summaries.program l.function (map effect_view l.effect-items)
