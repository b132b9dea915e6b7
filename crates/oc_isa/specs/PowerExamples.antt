-- Runs of an image, without outages and under power, by examples.
use Rattle.std.specs.Prelude.{◌≡◌, refl, ℕ, ℤ, pos, true, false, [], ◌∷◌}
use Rattle.oc_io.specs.declared.period.Period.{Period}
use Rattle.oc_tree.specs.Said.{Told}
use Rattle.oc_tree.specs.declared.said.Said.{Said}
use Rattle.oc_tree.specs.declared.said.Said.TheVariants.{Sensed, Showed, Entered, Committed, Aborted, Off, Dark, Ended}
use Rattle.oc_tree.specs.declared.said.Shown.TheVariants.{Emitted, Used, Finished}
use Rattle.oc_tree.specs.declared.said.Ending.TheVariants.{Halted}
use Rattle.oc_isa.specs.declared.phase.Phase.TheVariants.{Over, Lost}
use Rattle.oc_isa.specs.Table.{device_of}
use Rattle.oc_isa.specs.Run.{continuous_run}
use Rattle.oc_isa.specs.Power.{power_run}
use Rattle.oc_isa.specs.Worked.{fresh_image}

-- an item: at this tick this was said
abbrev pub at : (tick : ℕ) → Said → Told
at tick s = record { tick = tick; said = s }

-- so many steps, and then so many ticks without power
abbrev pub steps_off : (on off : ℕ) → Period
steps_off on off = record { on = on; off = off; cut = false }

-- a sensor that shows the tick
abbrev pub the_tick : ℕ → ℕ → ℤ
the_tick sensor tick = pos tick

pub continuous_run_example :
    (continuous_run (device_of fresh_image) (pos 21 ∷ []) 100).out
    ≡ Entered 1 ∷ Sensed 0 (pos 21) ∷ Showed (Used 3) ∷ Showed (Emitted 0 (pos 21))
    ∷ Showed (Finished 3) ∷ Committed 1 ∷ Ended Halted ∷ []
continuous_run_example = refl

-- where no sample is left, the run stops before it would take one
pub continuous_run_example_none :
    (continuous_run (device_of fresh_image) [] 100).out ≡ Entered 1 ∷ []
continuous_run_example_none = refl

-- a whole run in one period
pub power_run_example :
    (power_run (device_of fresh_image) the_tick (steps_off 100 0 ∷ [])).report
    ≡ at 5 (Entered 1) ∷ at 6 (Sensed 0 (pos 6)) ∷ at 8 (Showed (Used 3))
    ∷ at 10 (Showed (Emitted 0 (pos 6))) ∷ at 11 (Showed (Finished 3)) ∷ at 12 (Committed 1)
    ∷ at 13 (Ended Halted) ∷ []
power_run_example = refl

-- an outage of 5 ticks aborts the first attempt; the region is begun anew with another sample
pub power_run_example_abort :
    (power_run (device_of fresh_image) the_tick (steps_off 7 5 ∷ steps_off 100 0 ∷ [])).report
    ≡ at 5 (Entered 1) ∷ at 6 (Sensed 0 (pos 6)) ∷ at 7 (Aborted 1) ∷ at 7 (Off 5)
    ∷ at 17 (Entered 1) ∷ at 18 (Sensed 0 (pos 18)) ∷ at 20 (Showed (Used 3))
    ∷ at 22 (Showed (Emitted 0 (pos 18))) ∷ at 23 (Showed (Finished 3)) ∷ at 24 (Committed 1)
    ∷ at 25 (Ended Halted) ∷ []
power_run_example_abort = refl

-- the periods are used up
pub power_run_example_dark :
    (power_run (device_of fresh_image) the_tick (steps_off 6 5 ∷ [])).report
    ≡ at 5 (Entered 1) ∷ at 6 (Aborted 1) ∷ at 6 (Off 5) ∷ at 11 Dark ∷ []
power_run_example_dark = refl

pub power_run_example_over :
    (power_run (device_of fresh_image) the_tick (steps_off 100 0 ∷ [])).state.phase ≡ Over Halted
power_run_example_over = refl

-- a checkpoint is lost, before the region is entered
pub power_run_example_lost :
    (power_run (device_of fresh_image)
    the_tick (record { on = 2; off = 5; cut = true } ∷ [])).state.phase
    ≡ Lost
power_run_example_lost = refl
