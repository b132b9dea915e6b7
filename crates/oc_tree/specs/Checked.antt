-- Programs that are known to be good: written ones, which break no rule, and checked ones, which
-- are expansions of such.
use Rattle.std.specs.Prelude.{◌≡◌, ◌≤◌, ℕ, Bool, true, false, ◌&&◌, ◌==◌, List, All, Option, Some, None, count_by, find, nat_le}
use Rattle.oc_lex.specs.Stands.{IsName}
use Rattle.oc_lex.specs.Limits.{source_limit}
use Rattle.oc_tree.specs.Names.{Text}
use Rattle.oc_tree.specs.Tree.{TProgram}
use Rattle.oc_tree.specs.Nodes.{program_nodes}
use Rattle.oc_tree.specs.Numbers.{program_statements}
use Rattle.oc_tree.specs.Form.{InForm}
use Rattle.oc_tree.specs.Pulls.{program_pulls}
use Rattle.oc_tree.specs.Broken.{broken}
use Rattle.oc_tree.specs.Places.{block_of}

-- A written program is in form, its names are names of the language, its expressions have at most
-- 1,048,576 nodes, and no rule is broken.
pub record IsWritten (p : TProgram) : Type 0 where
  pub form : InForm IsName p
  pub few_nodes : program_nodes p ≤ source_limit
  pub unbroken : broken p ≡ None

-- ---- groups

-- a group, by the numbers of its first and its last statement
abbrev pub Group : Type 0
Group = ℕ × ℕ

-- two blocks are both known, and equal
abbrev pub same_block : Option ℕ → Option ℕ → Bool
same_block (Some b) (Some c) = b == c
same_block _ _ = false

-- the statements of a group stand directly in one block, from its first to its last
abbrev pub is_group : TProgram → Group → Bool
is_group p g = nat_le g.0 g.1 && same_block (block_of p g.0) (block_of p g.1)

-- a statement is directly in a group
abbrev pub is_in_group : TProgram → (s : ℕ) → Group → Bool
is_in_group p s g = same_block (block_of p s) (block_of p g.0) && (nat_le g.0 s && nat_le s g.1)

-- the group of a statement
abbrev pub group_of : TProgram → List Group → (s : ℕ) → Option Group
group_of p groups s = find (is_in_group p s) groups

-- each group is a range of statements of one block, and each statement is in one group
pub record AreGroups (p : TProgram) (groups : List Group) : Type 0 where
  pub ranges : All (λ g. is_group p g ≡ true) groups
  pub one_each : All (λ s. count_by (is_in_group p s) groups ≡ 1) (program_statements p)

-- any name
abbrev pub AnyName : Text → Type 0
AnyName x = Unit {0}

-- A checked program is in form, its expressions have neither inputs nor calls inside, no rule is
-- broken, and each statement is in one group. Its temporaries have names that no source can spell.
pub record IsChecked (p : TProgram) (groups : List Group) : Type 0 where
  pub form : InForm AnyName p
  pub plain : program_pulls p ≡ 0
  pub unbroken : broken p ≡ None
  pub grouped : AreGroups p groups

-- what contracts see of a checked program
pub record TChecked : Type 0 where
  pub program : TProgram
  pub groups : List Group
