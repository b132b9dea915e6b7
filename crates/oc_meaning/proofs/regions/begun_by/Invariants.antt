use Rattle.std.proofs.Common.{◌≡◌, map, drop}
use Rattle.oc_tree.specs.Regions.{region_view}
use Rattle.oc_meaning.specs.Exec.{begun_by}
use Rattle.oc_meaning.proofs.regions.begun_by.Given as goal

abbrev pub invariant-loop-region : goal.invariant-loop-region
invariant-loop-region l = begun_by (map region_view (drop l.region-index l.regions)) l.n ≡ begun_by (map region_view l.regions) l.n
