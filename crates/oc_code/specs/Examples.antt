-- The code of a program, by an example.
use Rattle.std.specs.Prelude.{◌≡◌, refl, [], ◌∷◌}
use Rattle.oc_tree.specs.Stack.{stacks_to}
use Rattle.oc_tree.specs.Worked.{fresh_input, fresh_region}
use Rattle.oc_isa.specs.Worked.{fresh_image}
use Rattle.oc_code.specs.Code.{code_of}

-- its region overwrites nothing
pub code_of_example : code_of fresh_input (fresh_region ∷ []) ([] ∷ []) ≡ fresh_image
unfolding stacks_to
code_of_example = refl
