-- The region that each declared value stands for.
use Rattle.oc_tree.specs.Marked.{TRegion}
use Rattle.oc_tree.specs.declared.marked.Region.{Region}

-- what contracts see of a region
abbrev pub region_view : Region → TRegion
region_view r = record {
  id = r.id;
  function = r.function;
  block = r.range.block;
  first = r.range.first;
  last = r.range.last;
  reasons = r.reasons.items;
}
