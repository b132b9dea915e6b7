use Rattle.std.proofs.Common.{◌∙◌, ap, List, map}
use Rattle.std.proofs.lemmas.List.{take_all}
use Rattle.oc_tree.specs.Marked.{TRegion}
use Rattle.oc_tree.specs.Regions.{region_view}
use Rattle.oc_tree.specs.declared.marked.Region.{Region}
use Rattle.oc_report.specs.RegionDetails.{range_of}
use Rattle.oc_report.proofs.regions.lines_of_regions.Goals as goal

pub returns : goal.returns
returns c =
    let p = c.args.marked.now.program in
    let all = take_all c.loop-region.region-index c.regions-region-items.result.now c.loop-region-test.false in
    c.loop-region.invariant ∙ ap (λ (rs : List Region). map (range_of p) (map region_view rs)) all ∙ ap (λ (rs : List TRegion). map (range_of p) rs) c.regions-region-items.ensures
