use Rattle.std.proofs.Common.{◌≡◌, ◌++◌, drop, map}
use Rattle.oc_tree.specs.View.{program_view}
use Rattle.oc_tree.specs.Regions.{region_view}
use Rattle.oc_writes.specs.Targets.{region_targets}
use Rattle.oc_writes.proofs.writes.targets_of.Given as goal

abbrev pub invariant-loop-region : goal.invariant-loop-region
invariant-loop-region l =
    map (λ v. v.items) l.all.items ++ map (region_targets (program_view l.program)) (map region_view (drop l.region-index l.regions))
    ≡ map (region_targets (program_view l.program)) (map region_view l.regions)
