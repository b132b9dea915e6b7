-- What is wrong with the first bad row of a power file.
use Rattle.std.specs.Prelude.{ℕ, ◌+◌, ◌==◌, ◌≡◌, ◌||◌, ⊤, Bool, List, [], ◌∷◌, length, get_or, codes, Option, Some, None, if◌then◌else◌}
use Rattle.std.specs.Str.{bytes_eq}
use Rattle.oc_io.specs.declared.period.Period.{Period}
use Rattle.oc_rows.specs.Numbers.{number_of}
use Rattle.oc_power.specs.declared.power.PowerWhat.{PowerWhat}
use Rattle.oc_power.specs.declared.power.PowerWhat.TheVariants as what
use Rattle.oc_power.specs.declared.power.PowerError.{PowerError}
use Rattle.oc_power.specs.declared.power.PowerError.TheVariants as error
use Rattle.oc_power.specs.Power.{Power, bad, is_header, period_row}

-- why these numbers and this mark are no period
abbrev pub why_period : Option ℕ → Option ℕ → Bool → PowerWhat
why_period None off marked = what.Number
why_period (Some on) None marked = what.Number
why_period (Some on) (Some off) marked = if marked then what.Sum else what.Mark

-- why fields are no period
abbrev pub why_row : List (List ℕ) → PowerWhat
why_row fields =
    if (length fields == 2) || (length fields == 3)
    then why_period (number_of (get_or fields 0 [])) (number_of (get_or fields 1 []))
    ((length fields == 2) || bytes_eq (get_or fields 2 []) (codes "cut"))
    else what.Fields

-- the cause of a row, where it is bad, or else that of those behind it
abbrev pub why_then : Option Period → PowerWhat → (Period → PowerWhat) → PowerWhat
why_then (Some p) why more = more p
why_then None why more = why

-- what is wrong with the first bad one of these rows, after periods of this sum; where none is bad it says nothing
abbrev pub why_rows : ℕ → List (List (List ℕ)) → PowerWhat
why_rows sum [] = what.Header
why_rows sum (fields ∷ rest) =
    why_then (period_row sum fields) (why_row fields) (λ p. why_rows (sum + p.on + p.off) rest)

-- what is wrong with the first bad row of a file with these rows
abbrev pub why_file : List (List (List ℕ)) → PowerWhat
why_file [] = what.Header
why_file (header ∷ rest) = if is_header header then why_rows 0 rest else what.Header

-- an error names the first bad row, or comes of want of memory
abbrev pub ExplainsPower : Power → PowerError → Type 0
ExplainsPower power (error.Row row cause) = power ≡ bad row
ExplainsPower power error.Memory = ⊤

-- an error at a row tells this cause
abbrev pub TellsCause : PowerWhat → PowerError → Type 0
TellsCause why (error.Row row cause) = cause ≡ why
TellsCause why error.Memory = ⊤
