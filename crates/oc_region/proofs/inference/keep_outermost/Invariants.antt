use Rattle.std.proofs.Common.{◌≡◌, ◌++◌, map, drop}
use Rattle.std.specs.Prelude.{filter, not}
use Rattle.std.specs.List.{list_any}
use Rattle.oc_region.specs.Regions.{is_inside, outermost}
use Rattle.oc_region.specs.Views.{stretch_view}
use Rattle.oc_region.proofs.inference.keep_outermost.Given as goal

abbrev pub invariant-loop-r : goal.invariant-loop-r
invariant-loop-r l =
    map stretch_view l.kept.items ++ filter (λ r. not (list_any (is_inside l.effects.program r) (map stretch_view l.ranges))) (map stretch_view (drop l.r-index l.ranges))
    ≡ outermost l.effects.program (map stretch_view l.ranges)
