-- The rows over and over.
use Rattle.std.specs.Prelude.{ℕ, zero, suc, ◌*◌, ◌^◌, List, [], ◌++◌, nat_lt, if◌then◌else◌}
use Rattle.oc_io.specs.declared.period.Period.{Period}
use Rattle.oc_power.specs.Total.{total}

-- the rows so many times over
unfoldable pub times : ℕ → List Period → List Period
times zero rows = []
times (suc n) rows = rows ++ times n rows

-- the most rounds, up to a number, that keep the sum of all times below 2^63, by a round's sum
unfoldable pub whole_rounds : ℕ → ℕ → ℕ
whole_rounds zero sum = 0
whole_rounds (suc n) sum = if nat_lt (suc n * sum) (2 ^ 63) then suc n else whole_rounds n sum

-- whole rounds of the rows, up to a number
abbrev pub looped : ℕ → List Period → List Period
looped rounds rows = times (whole_rounds rounds (total rows)) rows

-- the most rounds, and the periods left
pub record Looping : Type 0 where
  pub rounds : ℕ
  pub left : List Period
