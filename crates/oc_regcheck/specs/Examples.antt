-- When blocks suffice, by examples.
use Rattle.std.specs.Prelude.{◌≡◌, refl, true, false, [], ◌∷◌, Some}
use Rattle.oc_tree.specs.Worked.{fresh_input, set_of_two}
use Rattle.oc_flow.specs.Flow.{flows_to, brings_to}
use Rattle.oc_regcheck.specs.Enough.{is_covered, first_open}

-- the `if` of `set_of_two`, which is statement 3, has statement 4 inside
pub is_covered_example :
    is_covered set_of_two (3 ∷ []) (record { policy = 0; function = 0; sites = 4 ∷ [] }) ≡ true
is_covered_example = refl

pub is_covered_example_outside :
    is_covered set_of_two (3 ∷ []) (record { policy = 0; function = 0; sites = 1 ∷ 4 ∷ [] }) ≡ false
is_covered_example_outside = refl

-- without blocks, the input and the use of `fresh_input` are held together by none
pub first_open_example :
    first_open fresh_input [] ≡ Some (record { policy = 0; function = 0; sites = 1 ∷ 3 ∷ [] })
unfolding flows_to brings_to
first_open_example = refl
