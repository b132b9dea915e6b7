-- The program's own supplies and meters.
use Rattle.std.specs.Prelude.{ℕ, zero, suc, List, [], ◌∷◌, Some, None}
use Rattle.oc_power.specs.Looping.{looped}
use Rattle.oc_power.specs.Cutting.{cut_rows}
use Rattle.oc_meters.specs.Tally.{Reading}
use Rattle.oc_command.specs.Commands.{Plans}

-- the rounds of the second supply
abbrev pub round_limit : ℕ
round_limit = 64

-- the steps of a piece of the third supply
abbrev pub piece_limit : ℕ
piece_limit = 50

-- the rows as they are, the rows in rounds, and the rows in pieces
abbrev pub standard_plans : Plans
standard_plans zero = Some (λ rows. rows)
standard_plans (suc zero) = Some (looped round_limit)
standard_plans (suc (suc zero)) = Some (cut_rows piece_limit)
standard_plans other = None

-- one of each kind: counts, times without power, and aborts in a row, all from zero on
abbrev pub standard_meters : List Reading
standard_meters =
    record { kind = 0; numbers = 0 ∷ 0 ∷ 0 ∷ 0 ∷ 0 ∷ [] }
    ∷ record { kind = 1; numbers = 0 ∷ 0 ∷ [] }
    ∷ record { kind = 2; numbers = 0 ∷ 0 ∷ [] } ∷ []
