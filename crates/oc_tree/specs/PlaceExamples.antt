-- Where statements stand, by examples.
use Rattle.std.specs.Prelude.{◌≡◌, refl, true, false, [], ◌∷◌, Some, None}
use Rattle.oc_tree.specs.Places.{block_of, placed}
use Rattle.oc_tree.specs.Marked.{TRegion, function_of, around, covers}
use Rattle.oc_tree.specs.Worked.{set_of_two, carried_input}

-- the region from statement 1 to 3 of `set_of_two`
abbrev pub to_the_if : TRegion
to_the_if = record { id = 1; function = 0; block = 1; first = 1; last = 3; reasons = [] }

-- statement 4 of `set_of_two` stands in the block 2, in the `if`, which is statement 3
pub block_of_example : block_of set_of_two 4 ≡ Some 2
block_of_example = refl

pub block_of_example_none : block_of set_of_two 8 ≡ None
block_of_example_none = refl

pub around_example : around (placed set_of_two 4) ≡ 3 ∷ []
around_example = refl

-- statement 5 of `carried_input` stands in `show`, the third of its functions
pub function_of_example : function_of carried_input 5 ≡ Some 2
function_of_example = refl

-- the region has the `if`, and so what stands in it, but not statement 5
pub covers_example : covers set_of_two to_the_if 4 ≡ true
covers_example = refl

pub covers_example_behind : covers set_of_two to_the_if 5 ≡ false
covers_example_behind = refl
