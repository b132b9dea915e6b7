-- What is around the statements of a function: the program's names and functions, the regions, and how many
-- parameters the function has.
use Rattle.std.specs.Prelude.{ℕ, List}
use Rattle.oc_tree.specs.Names.{NameLists}
use Rattle.oc_tree.specs.Tree.{TFunction}
use Rattle.oc_tree.specs.Marked.{TRegion}

pub record Around : Type 0 where
  pub names : NameLists
  pub functions : List TFunction
  pub regions : List TRegion
  pub params : ℕ
