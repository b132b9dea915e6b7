-- What ranges are that are united until none share a statement.
use Rattle.std.specs.Prelude.{◌≡◌, ◌≤◌, false, List, [], ◌∷◌}
use Rattle.oc_tree.specs.Marked.{TRegion}
use Rattle.oc_tree.specs.Members.{IsOf}
use Rattle.oc_region.specs.Regions.{shares}

-- each of these ranges has a statement
abbrev pub AreRanges : List TRegion → Type 0
AreRanges rs = (r : TRegion) → IsOf r rs → r.first ≤ r.last

-- no two of these ranges share a statement
abbrev pub AreApart : List TRegion → Type 0
AreApart [] = Unit {0}
AreApart (r ∷ rs) = ((q : TRegion) → IsOf q rs → shares r q ≡ false) × AreApart rs

-- one range lies in another of the same block
pub record IsPart (r q : TRegion) : Type 0 where
  pub block : r.block ≡ q.block
  pub from : q.first ≤ r.first
  pub upto : r.last ≤ q.last

-- each of these ranges lies in one of those
abbrev pub LieIn : (these those : List TRegion) → Type 0
LieIn these those = (r : TRegion) → IsOf r these → (q : TRegion) × IsOf q those × IsPart r q

-- The result are ranges, apart, and each given one lies in one of them. They are the least that are
-- so: they lie in any others, and so have no statement that no given one has.
pub record AreUnited (given result : List TRegion) : Type 0 where
  pub ranges : AreRanges result
  pub apart : AreApart result
  pub hold : LieIn given result
  pub least : (others : List TRegion) → AreApart others → LieIn given others → LieIn result others
