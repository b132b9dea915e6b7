-- The line of a meter, put number by number, and those of all meters.
use Rattle.std.proofs.Common.{ℕ, ◌≡◌, List, [], ◌∷◌, ◌++◌, map, codes, decimal, refl, ap}
use Rattle.std.proofs.lemmas.List.{append-nil}
use Rattle.oc_io.specs.Lines.{further}
use Rattle.oc_io.proofs.Going.{Going}
use Rattle.oc_meters.specs.Lines.{kind_name, meter_line, meter_lines, number_field}
use Rattle.oc_meters.specs.Tally.{reading, readings}

-- the line's first pieces, and the fields of these numbers
abbrev pub head_of : ℕ → List ℕ
head_of kind = codes "meter " ++ (kind_name kind ++ [])

abbrev pub number_fields : List ℕ → List ℕ
number_fields numbers = further (map decimal numbers)

pub number_fields-cons : (number : ℕ) (numbers : List ℕ) → number_fields (number ∷ numbers) ≡ number_field number ++ number_fields numbers
number_fields-cons number numbers = refl

pub at_head : {S : Type 0} (took : S → List ℕ → S → Type 0) (none : (s : S) → took s [] s) (a : S) (kind : ℕ) (numbers : List ℕ)
    → Going took a a (head_of kind ++ number_fields numbers) (meter_line (record { kind = kind; numbers = numbers }))
at_head took none a kind numbers = record { done = []; taken = none a; joins = ap (λ (s : List ℕ). codes "meter " ++ (s ++ number_fields numbers)) (append-nil (kind_name kind)) }

-- the lines of these meters
abbrev pub lines_of : {M : Type 0} → (M → ℕ) → (M → List ℕ) → List M → List ℕ
lines_of kind numbers meters = meter_lines (readings kind numbers meters)

pub lines_of-cons : {M : Type 0} (kind : M → ℕ) (numbers : M → List ℕ) (m : M) (ms : List M) → lines_of kind numbers (m ∷ ms) ≡ meter_line (reading kind numbers m) ++ lines_of kind numbers ms
lines_of-cons kind numbers m ms = refl
