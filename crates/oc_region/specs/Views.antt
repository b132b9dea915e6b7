-- What contracts see of ranges, and of the ranges that policies ask for.
use Rattle.std.specs.Prelude.{ℕ, find, is_some, ◌+◌, Bool, nat_le, List, [], ◌∷◌, map, flat_map, Option, Some, None, cond, option_to_list}
use Rattle.std.specs.List.{list_any, list_all}
use Rattle.oc_tree.specs.Tree.{TProgram}
use Rattle.oc_tree.specs.Places.{placed, block_of}
use Rattle.oc_tree.specs.Checked.{Group, is_in_group}
use Rattle.oc_tree.specs.Marked.{TRegion, around, is_in_region, covers}
use Rattle.oc_needs.specs.Requirements.{TRequirement, rising}
use Rattle.oc_region.specs.declared.range.Stretch.{Stretch}
use Rattle.oc_region.specs.declared.asks.Ask.{Ask}
use Rattle.oc_region.specs.Smallest.{in_block, spread_on, spread, smallest}

-- a range as a region without a number
abbrev pub stretch_view : Stretch → TRegion
stretch_view s =
    record {
      id = 0;
      function = s.function;
      block = s.range.block;
      first = s.range.first;
      last = s.range.last;
      reasons = [];
    }

-- before how many ranges one with this first statement stands, among ranges in order
abbrev pub place_in : ℕ → List TRegion → ℕ
place_in first [] = 0
place_in first (q ∷ qs) = cond (nat_le first q.first) 0 (place_in first qs + 1)

-- a policy with a range for which it asks
pub record TAsk : Type 0 where
  pub policy : ℕ
  pub range : TRegion

abbrev pub ask_range : TAsk → TRegion
ask_range a = a.range

abbrev pub ask_view : Ask → TAsk
ask_view a = record { policy = a.policy; range = stretch_view a.range }

-- what a requirement asks for
abbrev pub asks_of : TProgram → List Group → TRequirement → List TAsk
asks_of p groups q =
    map (λ range. record { policy = q.policy; range = range })
    (option_to_list (smallest p groups q))

abbrev pub asks : TProgram → List Group → List TRequirement → List TAsk
asks p groups qs = flat_map (asks_of p groups) qs

-- the policy of a range that lies in the region
abbrev pub ask_reason : TProgram → TRegion → TAsk → List ℕ
ask_reason p r a = cond (covers p r a.range.first) (a.policy ∷ []) []

abbrev pub ask_reasons : TProgram → List TAsk → TRegion → List ℕ
ask_reasons p all r = rising (flat_map (ask_reason p r) all)

-- a region with its number and its reasons
abbrev pub with_reasons : TProgram → List TAsk → ℕ → TRegion → TRegion
with_reasons p all i r = record r { id = i; reasons = ask_reasons p all r }

abbrev pub numbered_for : TProgram → List TAsk → ℕ → List TRegion → List TRegion
numbered_for p all i [] = []
numbered_for p all i (r ∷ rs) = with_reasons p all i r ∷ numbered_for p all (i + 1) rs

-- a statement stands in a statement of a range
abbrev pub is_within : TProgram → TRegion → ℕ → Bool
is_within p r s = list_any (is_in_region p r) (around (placed p s))

-- the first of two groups that are there
abbrev pub or_group : Option Group → Option Group → Option Group
or_group None o = o
or_group (Some g) o = Some g

-- the group of a statement, where one more group is known
abbrev pub group_with : TProgram → Group → (s : ℕ) → Option Group → Option Group
group_with p g s o = or_group o (cond (is_in_group p s g) (Some g) None)

-- all these stand in the block
abbrev pub all_in_block : TProgram → List ℕ → (block : ℕ) → Bool
all_in_block p ss block = list_all (λ t. is_some (in_block p block t)) ss

-- the block of a statement, if all these stand in it
abbrev pub block_holding : TProgram → List ℕ → ℕ → Option ℕ
block_holding p ss s = find (all_in_block p ss) (option_to_list (block_of p s))

-- from the first of these groups to the last, among those from one group on
abbrev pub spread_from : Option Group → List Group → Option Group
spread_from None gs = spread gs
spread_from (Some g) gs = Some (spread_on g gs)
