-- Sets that were looked for.
use Rattle.std.specs.Prelude.{◌≡◌, ℕ, ℤ, List, Option, Some, None, slice_index_or}
use Rattle.oc_tree.specs.Tree.{TProgram}
use Rattle.oc_tree.specs.declared.said.Said.{Said}
use Rattle.oc_tree.specs.declared.said.Said.TheVariants.{Showed}
use Rattle.oc_tree.specs.declared.said.Shown.TheVariants.{Tagged}
use Rattle.oc_honest.specs.Timely.{set_of}

-- what was found for a statement, if it was looked for
abbrev pub found_for : List (Option (Option (ℕ × ℤ))) → ℕ → Option (Option (ℕ × ℤ))
found_for found n = slice_index_or found n None

-- all that was found is so
abbrev pub AreFound : TProgram → List (Option (Option (ℕ × ℤ))) → Type 0
AreFound p found = (n : ℕ) (s : Option (ℕ × ℤ)) → found_for found n ≡ Some s → s ≡ set_of p n

-- this is the set of the statement whose tag this is, where it is one
abbrev pub IsSetOf : TProgram → Said → Option (ℕ × ℤ) → Type 0
IsSetOf p (Showed (Tagged n)) s = s ≡ set_of p n
IsSetOf p said s = Unit {0}
