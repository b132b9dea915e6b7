-- The rows of a file of comma-separated fields.
use Rattle.std.specs.Prelude.{ℕ, ◌+◌, ◌≡◌, Bool, true, false, List, [], ◌∷◌}
use Rattle.csv.specs.Reading.{default_config, records, strip_bom}
use Rattle.oc_rows.specs.Place.{Cursor}

-- the records of a file, after a byte order mark
abbrev pub file_rows : List ℕ → List (List (List ℕ))
file_rows bytes = records default_config (strip_bom bytes)

-- a step to the next row, or to the end where there is none
abbrev pub StepsOn : Cursor → Cursor → Bool → Type 0
StepsOn old new true = (old.left ≡ new.row ∷ new.left) × (new.number ≡ old.number + 1)
StepsOn old new false = (old.left ≡ []) × (new.left ≡ []) × (new.number ≡ old.number)
