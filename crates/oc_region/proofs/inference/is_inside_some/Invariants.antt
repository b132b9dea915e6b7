use Rattle.std.proofs.Common.{◌≡◌, map, drop}
use Rattle.std.specs.List.{list_any}
use Rattle.oc_region.specs.Regions.{is_inside}
use Rattle.oc_region.specs.Views.{stretch_view}
use Rattle.oc_region.proofs.inference.is_inside_some.Given as goal

abbrev pub invariant-loop-q : goal.invariant-loop-q
invariant-loop-q l = list_any (is_inside l.effects.program (stretch_view l.r)) (map stretch_view (drop l.q-index l.ranges))
    ≡ list_any (is_inside l.effects.program (stretch_view l.r)) (map stretch_view l.ranges)
