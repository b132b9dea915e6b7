-- Each requirement has a smallest range.
use Rattle.std.specs.Prelude.{◌≡◌, List, Some}
use Rattle.oc_tree.specs.Tree.{TProgram}
use Rattle.oc_tree.specs.Checked.{Group}
use Rattle.oc_tree.specs.Marked.{TRegion}
use Rattle.oc_needs.specs.Requirements.{TRequirement}
use Rattle.oc_region.specs.Smallest.{smallest, IsSmallest}

-- the range that is found for a requirement is the smallest one that holds its sites
pub record HasSmallest (p : TProgram) (groups : List Group) (r : TRequirement) : Type 0 where
  pub range : TRegion
  pub found : smallest p groups r ≡ Some range
  pub smallest : IsSmallest p groups r.sites range
