-- What a call does.
use Rattle.std.specs.Prelude.{ℕ, ◌<◌, ◌≡◌, ◌⊎◌, ◌↔◌, ◌++◌, false, List, length, Option, Some, None}
use Rattle.oc_io.specs.Held.{nothing, content}
use Rattle.oc_io.specs.declared.period.Period.{Period}
use Rattle.oc_power.specs.Power.{power_file}
use Rattle.oc_power.specs.Power as power_rows
use Rattle.oc_sensors.specs.declared.sensors.Row.{Row}
use Rattle.oc_sensors.specs.File.{sensor_file}
use Rattle.oc_sensors.specs.File as sensor_rows
use Rattle.oc_meters.specs.Tally.{Reading}
use Rattle.oc_tree.specs.Tree.{TProgram}
use Rattle.oc_bounds.specs.Headway.{Suffice}
use Rattle.oc_isa.specs.Table.{device_of}
use Rattle.oc_top.specs.Meant.{program_bounds, program_code}
use Rattle.oc_command.specs.Commands.{Plan, Task, report, limits_of, word_at}
use Rattle.oc_command.specs.Files.{AreHeld, AreHeldBefore, limit_at, run_files}
use Rattle.oc_top.specs.Sources.{ReadsAs, program}
use Rattle.oc_report.specs.Runs.{Verdict}
use Rattle.oc_command.specs.Sinks.{TookAll, TookFront, TookNothing, Writes}
use Rattle.oc_command.specs.Statuses.{is_written, line_of, status_of}
use Rattle.oc_top.specs.Answers.{Call, Comes, IsJudged}
use Rattle.oc_command.specs.declared.answer.Answer.{Answer}

-- a call over a shelf, a standard output and this error output ends with this status
pub record Works (c : Call) (err : Writes) (status : ℕ) : Type 0 where
  -- the status is that of an answer with its cause, and the line of the answer is on the error
  -- output, with what its meters tell behind it
  pub answer : Answer
  pub told : List ℕ
  pub is_status : status ≡ status_of answer
  pub comes : Comes c told answer
  pub line : TookAll err (line_of c.words answer ++ told)
      ⊎ TookFront err (line_of c.words answer ++ told)
  -- where the files are held and no fault rose, it is the status of the verdict on them, or there
  -- was no memory
  pub exactly : (task : Task) (files : List (List ℕ)) (run : Verdict) → c.task ≡ Some task
      → AreHeld c.shelf.holds c.words (limits_of task) files → IsJudged files task run
      → ¬ c.shelf.rose → ¬ c.out.rose
      → (status ≡ status_of run.answer) ⊎ (status ≡ 11)
  pub usage : (status ≡ 1) ↔ (c.task ≡ None)
  -- where the shelf tells that there is nothing under a file's word, the status is 2, 3 or 11
  pub missing : (task : Task) (place : ℕ) → c.task ≡ Some task → place < length (limits_of task)
      → c.shelf.holds (word_at c.words place) ≡ nothing
      → (status ≡ 2) ⊎ ((status ≡ 3) ⊎ (status ≡ 11))
  -- where the files before it are held and no fault of the shelf rose, a file that is too long
  -- gives 3, or there was no memory
  pub long : (task : Task) (place : ℕ) (bytes : List ℕ)
      → c.task ≡ Some task → place < length (limits_of task)
      → AreHeldBefore c.shelf.holds c.words (limits_of task) place
      → c.shelf.holds (word_at c.words place) ≡ content bytes
      → limit_at (limits_of task) place < length bytes
      → ¬ c.shelf.rose
      → (status ≡ 3) ⊎ (status ≡ 11)
  -- where the periods suffice, by the numbers that are shown with the program's regions or by the
  -- steps of its runs, and no fault rose, a run ends by itself, or there was no memory
  pub enough : (task : Task) (plan : Plan) (meters : Option (List Reading))
      (files : List (List ℕ)) (p : TProgram) (rows : List Row) (periods : List Period)
      → c.task ≡ Some task → task ≡ report plan meters
      → AreHeld c.shelf.holds c.words (limits_of task) files
      → ReadsAs (run_files files).source (program p)
      → sensor_file p.names.sensors (run_files files).sensors ≡ sensor_rows.readings rows
      → power_file (run_files files).power ≡ power_rows.periods periods
      → Suffice (device_of (program_code p)) (program_bounds p) (plan periods)
      → ¬ c.shelf.rose → ¬ c.out.rose
      → (status ≡ 0) ⊎ ((status ≡ 8) ⊎ (status ≡ 11))
  -- with a status of no text, nothing was written, and no fault was counted on the standard output
  pub quiet : is_written status ≡ false → TookNothing c.out
