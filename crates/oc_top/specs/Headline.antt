-- What the report of a run keeps, whenever power fails.
use Rattle.std.specs.Prelude.{ℕ, ℤ, ◌≡◌, ◌≤◌, List, [], ◌++◌, length, map, Some, None, if◌then◌else◌}
use Rattle.oc_lex.specs.Limits.{source_limit}
use Rattle.oc_io.specs.declared.period.Period.{Period}
use Rattle.oc_power.specs.Power.{power_file}
use Rattle.oc_power.specs.Power as power_rows
use Rattle.oc_sensors.specs.declared.sensors.Row.{Row}
use Rattle.oc_sensors.specs.File.{sensor_file}
use Rattle.oc_sensors.specs.File as sensor_rows
use Rattle.oc_sensors.specs.History.{history}
use Rattle.oc_tree.specs.Tree.{TProgram}
use Rattle.oc_tree.specs.Said.{Told}
use Rattle.oc_tree.specs.declared.said.Ending.{Ending}
use Rattle.oc_tree.specs.declared.said.Said.TheVariants.{Ended}
use Rattle.oc_isa.specs.Power.{World, power_run}
use Rattle.oc_isa.specs.Table.{device_of}
use Rattle.oc_items.specs.Erase.{kept, kept_samples}
use Rattle.oc_tree.specs.Expansion.{expansion}
use Rattle.oc_items.specs.Reports.{IsPrefixOf, EndsWith}
use Rattle.oc_items.specs.Text.{is_over}
use Rattle.oc_items.specs.Told.{item_of}
use Rattle.oc_honest.specs.Honest.{TReport, IsHonest}
use Rattle.oc_outage.specs.Honest.{AreRead}
use Rattle.oc_outage.specs.Kept.{CountIsKept}
use Rattle.oc_bounds.specs.Attempts.{AttemptsClose}
use Rattle.oc_bounds.specs.Headway.{PeriodsKeep, RunEnds, Suffice}
use Rattle.oc_top.specs.Meant.{program_marked, program_code, program_bounds, program_run, plain_run, plain_said}
use Rattle.oc_command.specs.Commands.{Plan}
use Rattle.oc_command.specs.Files.{Files}
use Rattle.oc_top.specs.Sources.{ReadsAs, program}
use Rattle.oc_report.specs.Runs.{RunFits, Verdict, runs}

-- what a run reports: its items and, where it is over, its nonvolatile words
abbrev pub reported : List Told → List ℤ → TReport
reported items nv =
    record { items = items; nv = if is_over (map item_of items) then Some nv else None }

-- without its aborted attempts and without marks, the report is the whole run of the program as if it had no regions;
-- and these are the nonvolatile words that the program leaves, with regions too
pub record IsWholeRun (p : TProgram) (report : List Told) (nv : List ℤ) : Type 0 where
  pub shown : kept report ≡ plain_said p (kept_samples report)
  pub left : nv ≡ (program_run p (kept_samples report)).nv
  pub left_plain : nv ≡ (plain_run p (kept_samples report)).nv

-- The report is honest for the program with its regions. So without marks each prefix of it says what the program says
-- as if it had no regions, or a prefix of that. Each input has what its sensor had at that tick. And a prefix that
-- ends with `end` or `trap` is all of it, and the whole run
pub record IsHonestThroughout
    (p : TProgram) (h : ℕ → ℕ → ℤ) (report : List Told) (nv : List ℤ) : Type 0 where
  pub honest : IsHonest (expansion p) (program_marked p).regions (reported report nv)
  pub shown : (front rest : List Told)
      → front ++ rest ≡ report → IsPrefixOf (kept front) (plain_said p (kept_samples front))
  pub read : AreRead h report
  pub whole : (how : Ending) (front rest : List Told)
      → front ++ rest ≡ report → EndsWith front (Ended how) → (rest ≡ []) × IsWholeRun p front nv

-- the machine with the image of a program, over what the sensors showed and these periods
abbrev pub program_power : TProgram → List Row → List Period → World
program_power p rows periods = power_run (device_of (program_code p)) (history rows) periods

-- a run of the program that a source spells, over what the sensors showed and the periods that the
-- supply told: its answer and its text are those of the report, and the report is honest. An attempt
-- of a region that begins with its budget of steps left in its period is closed before any outage, by
-- its commit or a trap. Each period with the least number of steps keeps one more instruction of the
-- run without outages, or the run is over behind it; and where the periods suffice, by the numbers
-- that are shown with the regions or by the steps of the run, the run ends
pub record IsRun (files : Files) (plan : Plan) (run : Verdict) : Type 0 where
  pub written : TProgram
  pub spelled : ReadsAs files.source (program written)
  pub rows : List Row
  pub sensed : sensor_file written.names.sensors files.sensors ≡ sensor_rows.readings rows
  pub periods : List Period
  pub powered : power_file files.power ≡ power_rows.periods periods
  pub is_run : run ≡ runs (program_code written) rows (plan periods)
  pub honest : IsHonestThroughout written
      (history rows) (program_power written rows (plan periods)).report
      (program_power written rows (plan periods)).state.nv
  pub attempts : AttemptsClose
      (program_bounds written) (plan periods) (program_power written rows (plan periods)).report
  pub headway : PeriodsKeep
      (device_of (program_code written)) (program_bounds written) (history rows)
      (plan periods)
  pub counts : (before : List Period)
      → CountIsKept (device_of (program_code written)) (history rows) before
  pub ends : Suffice (device_of (program_code written)) (program_bounds written) (plan periods)
      → RunEnds (device_of (program_code written)) (history rows) (plan periods)

-- a run of a source whose report was written whole: its source isn't longer than one that is read,
-- and its items and the nonvolatile words that it leaves fit their types
pub record IsReportedRun (files : Files) (plan : Plan) (run : Verdict) : Type 0 where
  pub is : IsRun files plan run
  pub short : length files.source ≤ source_limit
  pub fits : RunFits (program_code is.written) is.rows (plan is.periods)
