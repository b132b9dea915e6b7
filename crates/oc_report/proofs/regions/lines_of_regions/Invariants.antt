use Rattle.std.proofs.Common.{◌≡◌, map, take}
use Rattle.oc_tree.specs.Regions.{region_view}
use Rattle.oc_report.specs.RegionDetails.{range_of}
use Rattle.oc_report.proofs.regions.lines_of_regions.Given as goal

abbrev pub invariant-loop-region : goal.invariant-loop-region
invariant-loop-region l = l.lines.items ≡ map (range_of l.marked.program) (map region_view (take l.region-index l.region-items))
