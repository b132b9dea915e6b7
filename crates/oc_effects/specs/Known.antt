-- What the tables of a program's names are.
use Rattle.std.specs.Prelude.{◌≡◌, ◌<◌, ◌^◌, List, length}
use Rattle.oc_tree.specs.Names.{Text}
use Rattle.oc_tree.specs.Tree.{TProgram}
use Rattle.oc_tree.specs.Calls.{function_names}

-- they have the names of its functions and of its nonvolatile variables, which `u32` can count
pub record KnownTables (p : TProgram) (functions nvs : List Text) : Type 0 where
  pub functions_are : functions ≡ function_names p.functions
  pub nvs_are : nvs ≡ p.names.nvs
  pub few_functions : length functions < 2 ^ 32
  pub few_nvs : length nvs < 2 ^ 32
