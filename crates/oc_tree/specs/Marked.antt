-- Regions of a checked program, and the policies that ask for them.
use Rattle.std.specs.Prelude.{◌≡◌, ◌<◌, ◌≤◌, ℕ, Bool, false, ◌&&◌, List, [], ◌∷◌, length, map, All, AllPairs, Option, Some, None, position, nat_le}
use Rattle.std.specs.List.{list_any}
use Rattle.oc_tree.specs.Tree.{TProgram}
use Rattle.oc_tree.specs.Numbers.{numbers_on, block_statements}
use Rattle.oc_tree.specs.Members.{is_number_of}
use Rattle.oc_tree.specs.Places.{Placed, placed, block_of}
use Rattle.oc_tree.specs.Checked.{Group, IsChecked, same_block}
use Rattle.oc_tree.specs.declared.marked.Policy.{Policy}

-- a region of a program
pub record TRegion : Type 0 where
  -- its number, from 1
  pub id : ℕ
  -- the place of its function, from 0
  pub function : ℕ
  -- the number of the block in which its statements stand directly
  pub block : ℕ
  -- the number of its first statement
  pub first : ℕ
  -- the number of its last statement
  pub last : ℕ
  -- the numbers of the policies that ask for it, from 0
  pub reasons : List ℕ

-- the place of the function in which a statement stands
abbrev pub function_of : TProgram → ℕ → Option ℕ
function_of p s = position (λ f. is_number_of (block_statements f.body) s) p.functions

-- a statement stands directly in the block of a region, from its first to its last one
abbrev pub is_in_region : TProgram → TRegion → ℕ → Bool
is_in_region p r s =
    same_block (block_of p s) (Some r.block) && (nat_le r.first s && nat_le s r.last)

-- the numbers of the statements in which a statement stands
abbrev pub around : Option Placed → List ℕ
around None = []
around (Some a) = a.at.around

-- a statement stands in a region, or in a statement of it
abbrev pub covers : TProgram → TRegion → ℕ → Bool
covers p r s = list_any (is_in_region p r) (s ∷ around (placed p s))

-- a region's first and last statement stand directly in its block and in its function, and its
-- reasons are policies
pub record IsRegion (p : TProgram) (policies : ℕ) (r : TRegion) : Type 0 where
  pub ordered : r.first ≤ r.last
  pub first_there : block_of p r.first ≡ Some r.block
  pub last_there : block_of p r.last ≡ Some r.block
  pub function_there : function_of p r.first ≡ Some r.function
  pub reasons_there : All (λ n. n < policies) r.reasons

-- Regions are numbered from 1 by their first statements; they share no statement, and none stands
-- in a statement of another.
pub record AreRegions (p : TProgram) (policies : ℕ) (rs : List TRegion) : Type 0 where
  pub each : All (IsRegion p policies) rs
  pub numbered : map (λ r. r.id) rs ≡ numbers_on 1 (length rs)
  pub rising : AllPairs (λ r q. r.first < q.first) rs
  pub apart : AllPairs (λ r q. (covers p r q.first ≡ false) × (covers p q r.first ≡ false)) rs

-- what contracts see of a program with regions
pub record TMarked : Type 0 where
  pub program : TProgram
  pub groups : List Group
  pub policies : List Policy
  pub regions : List TRegion

-- a checked program with regions of its own
pub record IsMarked (m : TMarked) : Type 0 where
  pub checked : IsChecked m.program m.groups
  pub regions : AreRegions m.program (length m.policies) m.regions
