-- Outages before events, and consistent sets, by examples.
use Rattle.std.specs.Prelude.{◌≡◌, refl, pos, List, [], ◌∷◌, map, Some, None}
use Rattle.oc_tree.specs.Said.{Told}
use Rattle.oc_tree.specs.declared.said.Said.TheVariants.{Sensed, Showed, Off}
use Rattle.oc_tree.specs.declared.said.Shown.TheVariants.{Used}
use Rattle.oc_tree.specs.Worked.{set_of_two}
use Rattle.oc_meaning.specs.Store.{Event}
use Rattle.oc_honest.specs.Timely.{lived, set_of, told_at, event}

-- an input, an outage and a use
abbrev pub used_late : List Told
used_late =
    told_at 1 (Sensed 0 (pos 21)) ∷ told_at 2 (Off 5) ∷ told_at 9 (Showed (Used 3)) ∷ []

-- the events of the source that they tell
abbrev pub input_and_use : List Event
input_and_use =
    event (Sensed 0 (pos 21)) (0 ∷ []) 0 ∷ event (Showed (Used 3)) (0 ∷ []) 0 ∷ []

-- no outage stands before the input, and one before the use
pub lived_example : map (λ l. l.offs) (lived used_late input_and_use) ≡ 0 ∷ 1 ∷ []
lived_example = refl

-- statement 5 of `set_of_two` annotates the set 1 of the function 0
pub set_of_example : set_of set_of_two 5 ≡ Some (0, pos 1)
set_of_example = refl

pub set_of_example_none : set_of set_of_two 2 ≡ None
set_of_example_none = refl
