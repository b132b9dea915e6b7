-- The periods of a power file, or its first bad row.
use Rattle.std.specs.Prelude.{ℕ, ◌+◌, ◌^◌, ◌==◌, ◌&&◌, ◌||◌, Bool, List, [], ◌∷◌, length, get_or, codes, Option, Some, None, nat_lt, if◌then◌else◌}
use Rattle.std.specs.Str.{bytes_eq}
use Rattle.oc_io.specs.declared.period.Period.{Period}
use Rattle.oc_rows.specs.Numbers.{number_of}
use Rattle.oc_rows.specs.Rows.{file_rows}

-- what a power file says: its periods, or the number of its first bad row
pub data Power : Type 0 where
  periods : List Period → Power
  bad : ℕ → Power

-- the period of a row with these numbers and mark, after periods of this sum
abbrev pub period_of : ℕ → Option ℕ → Option ℕ → Bool → Bool → Option Period
period_of sum (Some on) (Some off) marked cut =
    if marked && nat_lt (sum + on + off) (2 ^ 63)
    then Some (record { on = on; off = off; cut = cut })
    else None
period_of sum on off marked cut = None

-- the period of a row, after periods of this sum
abbrev pub period_row : ℕ → List (List ℕ) → Option Period
period_row sum fields =
    if (length fields == 2) || (length fields == 3)
    then period_of sum (number_of (get_or fields 0 [])) (number_of (get_or fields 1 []))
    ((length fields == 2) || bytes_eq (get_or fields 2 []) (codes "cut")) (length fields == 3)
    else None

-- a row is `on,off`
abbrev pub is_header : List (List ℕ) → Bool
is_header fields =
    (length fields == 2) && bytes_eq (get_or fields 0 []) (codes "on")
    && bytes_eq (get_or fields 1 []) (codes "off")

-- one period before those that a power file says
abbrev pub with_period : Period → Power → Power
with_period p (periods ps) = periods (p ∷ ps)
with_period p (bad row) = bad row

-- a row's period, and then those of the rows after it
abbrev pub row_then : ℕ → Option Period → (Period → Power) → Power
row_then row (Some p) more = with_period p (more p)
row_then row None more = bad row

-- the rows from this number on, after periods of this sum
abbrev pub power_rows : ℕ → ℕ → List (List (List ℕ)) → Power
power_rows row sum [] = periods []
power_rows row sum (fields ∷ rest) =
    row_then row (period_row sum fields) (λ p. power_rows (row + 1) (sum + p.on + p.off) rest)

-- what the rows of a power file say, the first of which must be the header
abbrev pub power_of : List (List (List ℕ)) → Power
power_of [] = bad 1
power_of (header ∷ rest) = if is_header header then power_rows 2 0 rest else bad 1

-- what the bytes of a power file say
abbrev pub power_file : List ℕ → Power
power_file bytes = power_of (file_rows bytes)
