-- The rows of a power file, by examples.
use Rattle.std.specs.Prelude.{◌≡◌, refl, true, false, [], ◌∷◌, Some, None, codes}
use Rattle.oc_power.specs.Power.{period_row, periods, bad, power_of}

pub period_row_example :
    period_row 0 (codes "40" ∷ codes "6" ∷ []) ≡ Some (record { on = 40; off = 6; cut = false })
period_row_example = refl

pub period_row_example_cut :
    period_row 0 (codes "40" ∷ codes "6" ∷ codes "cut" ∷ [])
    ≡ Some (record { on = 40; off = 6; cut = true })
period_row_example_cut = refl

-- a row has two fields or three
pub period_row_example_short : period_row 0 (codes "40" ∷ []) ≡ None
period_row_example_short = refl

-- the sum of all times stays below 2 ^ 63
pub period_row_example_long :
    period_row 9223372036854775761 (codes "40" ∷ codes "7" ∷ []) ≡ None
period_row_example_long = refl

-- the file `on,off`, `40,6`
pub power_of_example :
    power_of ((codes "on" ∷ codes "off" ∷ []) ∷ (codes "40" ∷ codes "6" ∷ []) ∷ [])
    ≡ periods (record { on = 40; off = 6; cut = false } ∷ [])
power_of_example = refl

-- the file `on,off`, `40,6`, `40`
pub power_of_example_bad :
    power_of ((codes "on" ∷ codes "off" ∷ []) ∷ (codes "40" ∷ codes "6" ∷ [])
    ∷ (codes "40" ∷ []) ∷ [])
    ≡ bad 3
power_of_example_bad = refl
