-- Ranges and regions, by examples.
use Rattle.std.specs.Prelude.{◌≡◌, refl, ℕ, List, [], ◌∷◌, Some}
use Rattle.oc_tree.specs.Checked.{Group}
use Rattle.oc_tree.specs.Marked.{TRegion}
use Rattle.oc_tree.specs.Worked.{fresh_input, set_of_two, fresh_marked}
use Rattle.oc_flow.specs.Flow.{flows_to, brings_to}
use Rattle.oc_needs.specs.Requirements.{TRequirement}
use Rattle.oc_region.specs.Smallest.{in_block, common_block, smallest}
use Rattle.oc_region.specs.Regions.{united, marked}

-- a range of block 1 without a number
abbrev pub from_to : (first last : ℕ) → TRegion
from_to first last =
    record { id = 0; function = 0; block = 1; first = first; last = last; reasons = [] }

-- what `set_of_two` requires: both inputs and both annotations lie in one region
abbrev pub both_inputs : TRequirement
both_inputs = record { policy = 0; function = 0; sites = 1 ∷ 4 ∷ 5 ∷ 6 ∷ [] }

-- each statement of `set_of_two` as a group of its own
abbrev pub each_alone : List Group
each_alone = (1, 1) ∷ (2, 2) ∷ (3, 3) ∷ (4, 4) ∷ (5, 5) ∷ (6, 6) ∷ (7, 7) ∷ []

-- statement 4 stands in the `if`, which is statement 3 of block 1
pub in_block_example : in_block set_of_two 1 4 ≡ Some 3
in_block_example = refl

pub common_block_example : common_block set_of_two (1 ∷ 4 ∷ []) ≡ Some 1
common_block_example = refl

pub common_block_example_inner : common_block set_of_two (4 ∷ []) ≡ Some 2
common_block_example_inner = refl

-- from the first input to the second annotation
pub smallest_example : smallest set_of_two each_alone both_inputs ≡ Some (from_to 1 6)
smallest_example = refl

-- the third range joins the other two
pub united_example : united (from_to 1 4 ∷ from_to 6 8 ∷ from_to 3 6 ∷ []) ≡ from_to 1 8 ∷ []
united_example = refl

-- ranges that share no statement stay two
pub united_example_apart :
    united (from_to 1 4 ∷ from_to 5 8 ∷ []) ≡ from_to 1 4 ∷ from_to 5 8 ∷ []
united_example_apart = refl

pub marked_example : marked fresh_input ((1, 1) ∷ (2, 2) ∷ (3, 3) ∷ []) ≡ fresh_marked
unfolding flows_to brings_to
marked_example = refl
