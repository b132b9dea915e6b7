-- Reports worked out by hand, of sources whose regions keep their inputs timely.
use Rattle.std.specs.Prelude.{◌≡◌, ℕ, ℤ, pos, List, [], ◌∷◌}
use Rattle.oc_tree.specs.Tree.{TProgram}
use Rattle.oc_tree.specs.Worked.{fresh_input, fresh_writes, set_of_two, carried_input}
use Rattle.oc_tree.specs.Said.{Told}
use Rattle.oc_tree.specs.declared.said.Said.TheVariants.{Sensed, Showed, Entered, Committed, Aborted, Off, Ended}
use Rattle.oc_tree.specs.declared.said.Shown.TheVariants.{Emitted, Used, Finished, Tagged}
use Rattle.oc_tree.specs.declared.said.Ending.TheVariants.{Halted}
use Rattle.oc_items.specs.Erase.{kept, kept_samples}
use Rattle.oc_meaning.specs.Run.{source_run, said_in}
use Rattle.oc_honest.specs.Timely.{IsTimely, told_at}

-- ---- reports

-- the use at the statement n begins at this tick
abbrev pub use_at : (tick n : ℕ) → Told
use_at tick n = told_at tick (Showed (Used n))

-- the use at the statement n ends at this tick
abbrev pub done_at : (tick n : ℕ) → Told
done_at tick n = told_at tick (Showed (Finished n))

-- this value is emitted on the port 0 at this tick
abbrev pub emit_at : (tick : ℕ) → ℤ → Told
emit_at tick value = told_at tick (Showed (Emitted 0 value))

-- this value is sampled of this sensor at this tick
abbrev pub sense_at : (tick sensor : ℕ) → ℤ → Told
sense_at tick sensor value = told_at tick (Sensed sensor value)

-- an attempt is broken off at its output
abbrev pub broken_off : List Told
broken_off =
    told_at 5 (Entered 1) ∷ sense_at 6 0 (pos 21) ∷ use_at 8 3 ∷ told_at 9 (Aborted 1)
    ∷ told_at 9 (Off 100) ∷ told_at 114 (Entered 1) ∷ sense_at 115 0 (pos 30) ∷ use_at 117 3
    ∷ emit_at 119 (pos 30) ∷ done_at 120 3 ∷ told_at 121 (Committed 1)
    ∷ told_at 122 (Ended Halted) ∷ []

-- an attempt is broken off, and so are its undoing and the restoring of registers
abbrev pub undone : List Told
undone =
    told_at 5 (Entered 1) ∷ sense_at 6 0 (pos 21) ∷ use_at 8 3 ∷ done_at 12 3
    ∷ told_at 18 (Aborted 1) ∷ told_at 18 (Off 10) ∷ told_at 30 (Off 10) ∷ told_at 45 (Off 10)
    ∷ told_at 62 (Entered 1) ∷ sense_at 63 0 (pos 30) ∷ use_at 65 3 ∷ done_at 68 3
    ∷ use_at 73 5 ∷ emit_at 75 (pos 30) ∷ done_at 76 5 ∷ told_at 77 (Committed 1)
    ∷ told_at 78 (Ended Halted) ∷ []

-- an outage right behind a `commit`
abbrev pub behind_commit : List Told
behind_commit =
    told_at 5 (Entered 1) ∷ sense_at 6 0 (pos 21) ∷ use_at 8 3 ∷ emit_at 10 (pos 21)
    ∷ done_at 11 3 ∷ told_at 12 (Committed 1) ∷ told_at 13 (Off 100)
    ∷ told_at 119 (Ended Halted) ∷ []

-- an outage behind a set, before the sum of its members is shown
abbrev pub behind_set : List Told
behind_set =
    told_at 6 (Entered 1) ∷ sense_at 7 0 (pos 5) ∷ sense_at 15 1 (pos 8)
    ∷ told_at 17 (Showed (Tagged 5)) ∷ told_at 18 (Showed (Tagged 6))
    ∷ told_at 19 (Committed 1) ∷ told_at 22 (Off 50) ∷ emit_at 82 (pos 13)
    ∷ told_at 83 (Ended Halted) ∷ []

-- two attempts are broken off
abbrev pub third_attempt : List Told
third_attempt =
    told_at 4 (Entered 1) ∷ sense_at 6 0 (pos 4) ∷ told_at 20 (Aborted 1) ∷ told_at 20 (Off 10)
    ∷ told_at 36 (Entered 1) ∷ sense_at 38 0 (pos 4) ∷ told_at 50 (Aborted 1)
    ∷ told_at 50 (Off 10) ∷ told_at 66 (Entered 1) ∷ sense_at 68 0 (pos 6) ∷ use_at 83 5
    ∷ emit_at 85 (pos 6) ∷ done_at 86 5 ∷ told_at 88 (Committed 1)
    ∷ told_at 89 (Ended Halted) ∷ []

-- ---- what is said of them

-- what is kept of the report is all that the source says over the samples kept, and the report is timely
pub record IsWorked (p : TProgram) (items : List Told) : Type 0 where
  pub shown : kept items ≡ said_in (source_run p (kept_samples items))
  pub timely : IsTimely p items (source_run p (kept_samples items)).events

-- each of these reports, of its source, is as the definitions have it
pub record WorkedReports : Type 0 where
  pub broken_off : IsWorked fresh_input broken_off
  pub undone : IsWorked fresh_writes undone
  pub behind_commit : IsWorked fresh_input behind_commit
  pub behind_set : IsWorked set_of_two behind_set
  pub third_attempt : IsWorked carried_input third_attempt
