-- The smallest range that holds sites.
use Rattle.std.specs.Prelude.{◌≡◌, ◌≤◌, ℕ, Bool, true, false, ◌&&◌, List, [], ◌∷◌, flat_map, find, min, max, Option, Some, None, is_some, nat_le, option_map, option_to_list, option_and_then}
use Rattle.std.specs.List.{list_all}
use Rattle.oc_tree.specs.Tree.{TProgram}
use Rattle.oc_tree.specs.Places.{placed, block_of}
use Rattle.oc_tree.specs.Checked.{Group, group_of, same_block}
use Rattle.oc_tree.specs.Marked.{TRegion, around, is_in_region, covers}
use Rattle.oc_needs.specs.Requirements.{TRequirement}

-- a statement, and those around it, the innermost first
abbrev pub line_up : TProgram → ℕ → List ℕ
line_up p s = s ∷ around (placed p s)

-- the statement directly in the block that is `s`, or in which `s` stands
abbrev pub in_block : TProgram → (block : ℕ) → (s : ℕ) → Option ℕ
in_block p block s = find (λ t. same_block (block_of p t) (Some block)) (line_up p s)

-- the blocks in which a statement stands, the innermost first
abbrev pub blocks_of : TProgram → ℕ → List ℕ
blocks_of p s = flat_map (λ t. option_to_list (block_of p t)) (line_up p s)

-- the innermost block in which all these stand
abbrev pub common_block : TProgram → List ℕ → Option ℕ
common_block p [] = None
common_block p (s ∷ ss) = find (λ b. list_all (λ t. is_some (in_block p b t)) ss) (blocks_of p s)

-- from the first of these groups to the last
abbrev pub spread_on : Group → List Group → Group
spread_on g [] = g
spread_on g (h ∷ gs) = spread_on (min g.0 h.0, max g.1 h.1) gs

-- from the first of these groups to the last, where there are any
abbrev pub spread : List Group → Option Group
spread [] = None
spread (g ∷ gs) = Some (spread_on g gs)

-- the groups of a block in which these stand
abbrev pub groups_in : TProgram → List Group → (block : ℕ) → List ℕ → List Group
groups_in p groups block ss =
    flat_map (λ s. option_to_list (option_and_then (group_of p groups) (in_block p block s))) ss

-- a range of a block for a requirement, as a region without a number and without reasons
abbrev pub range_of : TRequirement → (block : ℕ) → Group → TRegion
range_of r block g =
    record { id = 0; function = r.function; block = block; first = g.0; last = g.1; reasons = [] }

-- the range of a requirement in a block in which all its sites stand: from the group of the first
-- of them to that of the last
abbrev pub range_in : TProgram → List Group → TRequirement → (block : ℕ) → Option TRegion
range_in p groups r block =
    option_map (range_of r block) (spread (groups_in p groups block r.sites))

-- the smallest range that holds the sites of a requirement
abbrev pub smallest : TProgram → List Group → TRequirement → Option TRegion
smallest p groups r = option_and_then (range_in p groups r) (common_block p r.sites)

-- ---- what it is

-- a group lies directly in a range
abbrev pub has_group : TRegion → Option Group → Bool
has_group r None = false
has_group r (Some g) = nat_le r.first g.0 && nat_le g.1 r.last

-- whole groups that follow each other in a block
pub record IsRange (p : TProgram) (groups : List Group) (r : TRegion) : Type 0 where
  pub ordered : r.first ≤ r.last
  pub first_there : block_of p r.first ≡ Some r.block
  pub last_there : block_of p r.last ≡ Some r.block
  pub whole : (s : ℕ) → is_in_region p r s ≡ true → has_group r (group_of p groups s) ≡ true

-- a range holds all these statements
abbrev pub Holds : TProgram → TRegion → List ℕ → Type 0
Holds p r ss = list_all (covers p r) ss ≡ true

-- the statements that the range `r` holds, the range `q` holds too
abbrev pub LiesIn : TProgram → TRegion → TRegion → Type 0
LiesIn p r q = (s : ℕ) → covers p r s ≡ true → covers p q s ≡ true

-- the smallest range that holds these statements: it lies in every other one that holds them
pub record IsSmallest
    (p : TProgram) (groups : List Group) (ss : List ℕ) (r : TRegion) : Type 0 where
  pub range : IsRange p groups r
  pub holds : Holds p r ss
  pub least : (q : TRegion) → IsRange p groups q → Holds p q ss → LiesIn p r q
