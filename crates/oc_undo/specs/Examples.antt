-- What a log puts back, by examples.
use Rattle.std.specs.Prelude.{◌≡◌, refl, pos, true, false, List, [], ◌∷◌}
use Rattle.oc_undo.specs.declared.Entry.{Entry}
use Rattle.oc_undo.specs.Undo.{undo, has_entry}

-- word 1 was 7 before it was first written, and then 8
abbrev pub two_entries : List Entry
two_entries =
    record { addr = 1; old = pos 7 } ∷ record { addr = 1; old = pos 8 } ∷ []

-- the entries are put back from the last to the first, so word 1 is 7 again
pub undo_example :
    undo two_entries (pos 3 ∷ pos 9 ∷ pos 5 ∷ []) ≡ pos 3 ∷ pos 7 ∷ pos 5 ∷ []
undo_example = refl

pub has_entry_example : has_entry two_entries 1 ≡ true
has_entry_example = refl

pub has_entry_example_none : has_entry two_entries 2 ≡ false
has_entry_example_none = refl
