-- What is made of a checked program before it is marked.
use Rattle.std.specs.Prelude.{◌≡◌, List, map}
use Rattle.oc_tree.specs.Tree.{TProgram}
use Rattle.oc_tree.specs.Checked.{Group}
use Rattle.oc_tree.specs.Regions.{region_view}
use Rattle.oc_needs.specs.Policies.{policies}
use Rattle.oc_region.specs.Regions.{regions}
use Rattle.oc_region.specs.declared.inference.Inferred.{Inferred}

-- they are the policies of a program and the regions that these ask for
pub record AreInferred (p : TProgram) (groups : List Group) (i : Inferred) : Type 0 where
  pub policies_are : i.policies.items ≡ policies p
  pub regions_are : map region_view i.regions.items ≡ regions p groups
