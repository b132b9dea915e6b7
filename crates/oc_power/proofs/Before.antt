-- Periods before those of the rows left.
use Rattle.std.proofs.Common.{ℕ, ◌+◌, ◌≡◌, List, [], ◌∷◌, ◌++◌, Option, Some, ap, refl}
use Rattle.std.proofs.lemmas.List.{append_assoc}
use Rattle.oc_io.specs.declared.period.Period.{Period}
use Rattle.oc_power.specs.Causes.{why_row, why_rows, why_then}
use Rattle.oc_power.specs.Power.{Power, periods, bad, period_row, power_rows, row_then, with_period}

abbrev pub all_with : List Period → Power → Power
all_with ps (periods qs) = periods (ps ++ qs)
all_with ps (bad row) = bad row

pub one_more : (ps : List Period) (p : Period) (power : Power) → all_with (ps ++ p ∷ []) power ≡ all_with ps (with_period p power)
one_more ps p (periods qs) = ap periods (append_assoc ps (p ∷ []) qs)
one_more ps p (bad row) = refl

pub one_row : (n sum : ℕ) (row : List (List ℕ)) (left : List (List (List ℕ))) (p : Period) → period_row sum row ≡ Some p
    → power_rows n sum (row ∷ left) ≡ with_period p (power_rows (n + 1) (sum + p.on + p.off) left)
one_row n sum row left p e = ap (λ (r : Option Period). row_then n r (λ q. power_rows (n + 1) (sum + q.on + q.off) left)) e

-- what is wrong with a row behind one that is a period
pub why_on : (sum : ℕ) (row : List (List ℕ)) (left : List (List (List ℕ))) (p : Period) → period_row sum row ≡ Some p → why_rows sum (row ∷ left) ≡ why_rows (sum + p.on + p.off) left
why_on sum row left p e = ap (λ (r : Option Period). why_then r (why_row row) (λ q. why_rows (sum + q.on + q.off) left)) e
