-- What a report has from its sensors, and how many instructions are kept, by examples.
use Rattle.std.specs.Prelude.{◌≡◌, refl, false, ◌+◌, ℕ, ℤ, pos, [], ◌∷◌}
use Rattle.oc_tree.specs.declared.said.Said.TheVariants.{Sensed, Committed}
use Rattle.oc_isa.specs.Table.{device_of}
use Rattle.oc_isa.specs.Power.{first_world}
use Rattle.oc_isa.specs.Worked.{fresh_image}
use Rattle.oc_outage.specs.Honest.{AreRead, begun}
use Rattle.oc_outage.specs.Kept.{kept_after}

-- a sensor that shows twice the tick
abbrev pub twice_the_tick : ℕ → ℕ → ℤ
twice_the_tick sensor tick = pos (tick + tick)

-- an input at the tick 3 has the value 6
pub AreRead_example :
    AreRead twice_the_tick
    (record { tick = 3; said = Sensed 0 (pos 6) } ∷ record { tick = 4; said = Committed 1 } ∷ [])
AreRead_example = (refl, (tt, tt))

-- that it has the value 5 would ask that 5 be 6
pub AreRead_example_other :
    AreRead twice_the_tick (record { tick = 3; said = Sensed 0 (pos 5) } ∷ [])
    ≡ ((pos 5 ≡ pos 6) × Unit {0})
AreRead_example_other = refl

-- one period keeps all 9 instructions of `fresh_image`
pub kept_after_example :
    kept_after (device_of fresh_image)
    twice_the_tick (record { on = 100; off = 0; cut = false } ∷ []) ≡ 9
kept_after_example = refl

-- one of 7 steps keeps the `enter` alone: the input behind it is tried again
pub kept_after_example_aborted :
    kept_after (device_of fresh_image)
    twice_the_tick (record { on = 7; off = 5; cut = false } ∷ []) ≡ 1
kept_after_example_aborted = refl

-- the run is over behind the first of two periods
pub begun_example :
    begun (device_of fresh_image) twice_the_tick
    (record { on = 100; off = 0; cut = false } ∷ record { on = 100; off = 0; cut = false } ∷ [])
    (first_world (device_of fresh_image)) ≡ 1
begun_example = refl
