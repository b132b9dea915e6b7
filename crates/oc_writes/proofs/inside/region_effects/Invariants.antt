use Rattle.std.proofs.Common.{◌≡◌, ◌++◌, drop, map}
use Rattle.oc_tree.specs.Regions.{region_view}
use Rattle.oc_effects.specs.View.{effect_view}
use Rattle.oc_effects.specs.Effects.{effects_at}
use Rattle.oc_flow.specs.Known.{effects_seen}
use Rattle.oc_writes.specs.Seen.{standing_in}
use Rattle.oc_writes.proofs.inside.region_effects.Given as goal

abbrev pub invariant-loop-effect : goal.invariant-loop-effect
invariant-loop-effect l =
    effects_seen l.inside.items ++ standing_in l.effects.program (region_view l.region) (map effect_view (drop l.effect-index l.effect-items))
    ≡ standing_in l.effects.program (region_view l.region) (effects_at l.effects.program l.region.function)
