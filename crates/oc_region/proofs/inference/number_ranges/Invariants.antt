use Rattle.std.proofs.Common.{◌≡◌, ◌+◌, ◌++◌, map, drop}
use Rattle.oc_tree.specs.Regions.{region_view}
use Rattle.oc_region.specs.Views.{ask_view, numbered_for, stretch_view}
use Rattle.oc_region.proofs.inference.number_ranges.Given as goal

abbrev pub invariant-loop-r : goal.invariant-loop-r
invariant-loop-r l =
    map region_view l.regions.items ++ numbered_for l.effects.program (map ask_view l.asks) (l.id + 1) (map stretch_view (drop l.r-index l.ranges))
    ≡ numbered_for l.effects.program (map ask_view l.asks) 1 (map stretch_view l.ranges)
