-- Periods and their steps, by examples.
use Rattle.std.specs.Prelude.{◌≡◌, ◌≤◌, refl, ℕ, false, List, [], ◌∷◌}
use Rattle.oc_io.specs.declared.period.Period.{Period}
use Rattle.oc_tree.specs.declared.said.Said.TheVariants.{Committed, Aborted}
use Rattle.oc_isa.specs.Table.{device_of}
use Rattle.oc_isa.specs.Worked.{fresh_image}
use Rattle.oc_bounds.specs.Attempts.{steps_after, Closes}
use Rattle.oc_bounds.specs.Bounds.{Bounds, AreLong}
use Rattle.oc_bounds.specs.Headway.{least, AddUp}

-- 10 steps, 5 ticks without power, and 20 steps
abbrev pub two_periods : List Period
two_periods =
    record { on = 10; off = 5; cut = false } ∷ record { on = 20; off = 0; cut = false } ∷ []

-- behind the step at the tick 3 the first period has 6 steps left
pub steps_after_example : steps_after 0 two_periods 3 ≡ 6
steps_after_example = refl

-- the second period begins at the tick 15; behind the step at the tick 16 it has 18 left
pub steps_after_example_second : steps_after 0 two_periods 16 ≡ 18
steps_after_example_second = refl

-- an attempt that is committed is closed, and one that is aborted isn't
pub Closes_example : Closes (record { tick = 4; said = Committed 1 } ∷ []) ≡ Unit {0}
Closes_example = refl

pub Closes_example_aborted : Closes (record { tick = 4; said = Aborted 1 } ∷ []) ≡ ⊥
Closes_example_aborted = refl

-- that both have 12 steps asks of the first period what it hasn't
pub AreLong_example :
    AreLong 12 2 two_periods
    ≡ ((12 ≤ 10) × (false ≡ false) × ((12 ≤ 20) × (false ≡ false) × Unit {0}))
AreLong_example = refl

-- that three have 10 asks for one more
pub AreLong_example_more :
    AreLong 10 3 two_periods
    ≡ ((10 ≤ 10) × (false ≡ false) × ((10 ≤ 20) × (false ≡ false) × ⊥))
AreLong_example_more = refl

-- bounds by which a period is safe with so many steps
abbrev pub safe_with : (safe : ℕ) → Bounds
safe_with safe =
    record { spent = λ r. 7; logged = λ r. 0; total = 9; steps = 14; safe = safe }

-- `fresh_image` has a stack of 2 words: a boot with a full stack and what comes next take 13 steps,
-- and a safe period of 20 steps has 14 of them for an attempt
pub least_example : least (device_of fresh_image) (safe_with 20) ≡ 14
least_example = refl

-- from 14 steps on, a period of 16 steps has 3
pub AddUp_example :
    AddUp 14 3 (record { on = 16; off = 0; cut = false } ∷ []) ≡ ((false ≡ false) × Unit {0})
AddUp_example = refl

pub AddUp_example_few :
    AddUp 14 4 (record { on = 16; off = 0; cut = false } ∷ []) ≡ ((false ≡ false) × ⊥)
AddUp_example_few = refl
