-- What is answered, and why.
use Rattle.std.specs.Prelude.{ℕ, suc, ◌<◌, ◌≤◌, ◌≡◌, ◌⊎◌, List, [], length, Option, Some, None}
use Rattle.oc_io.specs.Held.{Held, nothing, Longer}
use Rattle.oc_meters.specs.Tally.{Reading as Meter}
use Rattle.oc_tree.specs.Tree.{TProgram}
use Rattle.oc_io.specs.Counts.{capped, line_feeds}
use Rattle.oc_drill.specs.Drill.{drill_source, drill_sensors, drill_power, drill_line}
use Rattle.oc_command.specs.Commands.{Command, Plan, Plans, Task, report, drill, regions, listing, imaging, checking, auditing, executing, limits_of, meters_of, words_if_any, task_of, word_at}
use Rattle.oc_command.specs.Files.{Files, Fetches, AreFiles, WereFetched, file_at, limit_at, names_of, run_files}
use Rattle.oc_command.specs.Statuses.{status_of}
use Rattle.oc_command.specs.Sinks.{Writes, TookNothing, TookAll, TookFront}
use Rattle.oc_command.specs.Meters.{HasTold}
use Rattle.oc_top.specs.Sources.{Reading, ReadsAs, program}
use Rattle.oc_report.specs.Runs.{Verdict, refuses, prints}
use Rattle.oc_top.specs.Verdict.{verdict, printed, regions_of, listing_of, image_of}
use Rattle.oc_top.specs.Headline.{IsReportedRun, IsRun}
use Rattle.oc_top.specs.Checked.{IsCheck, IsSafe}
use Rattle.oc_top.specs.Audited.{IsAudit, IsVouched}
use Rattle.oc_report.specs.Images.{IsExecuted, IsExecution}
use Rattle.oc_command.specs.declared.answer.Answer.{Answer}
use Rattle.oc_command.specs.declared.answer.Answer.TheVariants as answer

-- this is the verdict on a source, by how it reads
pub record IsVerdict (source : List ℕ) (on : Reading → Verdict) (run : Verdict) : Type 0 where
  pub reading : Reading
  pub reads : ReadsAs source reading
  pub is_verdict : on reading ≡ run

-- the files of a drill
abbrev pub drill_files : ℕ → Files
drill_files turns =
    record { source = drill_source turns; sensors = drill_sensors turns; power = drill_power turns }

-- the line of a drill, which tells its verdict on its files
abbrev pub verdict_line : ℕ → Verdict → List ℕ
verdict_line turns run =
    drill_line turns
    (status_of run.answer) (capped (line_feeds run.text)) (capped (length run.text))

-- this prints the line of the verdict on the files of a drill
abbrev pub IsDrill : ℕ → Plan → Verdict → Type 0
IsDrill turns plan run =
    IsVerdict (drill_source turns)
    (λ reading. prints (verdict_line turns (verdict reading (drill_files turns) plan))) run

-- this is the verdict on files for a task
abbrev pub IsJudged : List (List ℕ) → Task → Verdict → Type 0
IsJudged files (report plan meters) run =
    IsVerdict (file_at files 0) (λ reading. verdict reading (run_files files) plan) run
IsJudged files (drill turns plan) run = IsDrill turns plan run
IsJudged files regions run = IsVerdict (file_at files 0) (λ reading. printed reading regions_of) run
IsJudged files listing run = IsVerdict (file_at files 0) (λ reading. printed reading listing_of) run
IsJudged files imaging run = IsVerdict (file_at files 0) (λ reading. printed reading image_of) run
IsJudged files checking run = IsCheck (file_at files 0) run
IsJudged files auditing run = IsAudit (file_at files 0) (file_at files 1) run
IsJudged files (executing plan) run = IsExecution (run_files files) plan run

-- this prints a text of the program that a source spells
pub record IsPrint (source : List ℕ) (text : TProgram → List ℕ) (run : Verdict) : Type 0 where
  pub written : TProgram
  pub spelled : ReadsAs source (program written)
  pub is_text : run ≡ prints (text written)

-- this does the task
abbrev pub IsDone : List (List ℕ) → Task → Verdict → Type 0
IsDone files (report plan meters) run = IsRun (run_files files) plan run
IsDone files (drill turns plan) run = IsDrill turns plan run
IsDone files regions run = IsPrint (file_at files 0) regions_of run
IsDone files listing run = IsPrint (file_at files 0) listing_of run
IsDone files imaging run = IsPrint (file_at files 0) image_of run
IsDone files checking run = IsSafe (file_at files 0) run
IsDone files auditing run = IsVouched (file_at files 0) (file_at files 1) run
IsDone files (executing plan) run = IsExecuted (run_files files) plan run

-- this does the task, and all that was to be written was
abbrev pub IsDoneWhole : List (List ℕ) → Task → Verdict → Type 0
IsDoneWhole files (report plan meters) run = IsReportedRun (run_files files) plan run
IsDoneWhole files task run = IsDone files task run

-- ---- what is written

-- ---- calls

-- a call of `ocelot`
pub record Call : Type 1 where
  -- the words of its files
  pub words : List (List ℕ)
  -- its task, if any
  pub task : Option Task
  -- what the shelf did
  pub shelf : Fetches
  -- what the standard output did
  pub out : Writes

-- a call with these words, this task, and what the shelf and the standard output did
abbrev pub call_of : List (List ℕ) → Option Task → Fetches → Writes → Call
call_of words task shelf out = record { words = words; task = task; shelf = shelf; out = out }

-- the call of a command, if any, with these supplies and meters
abbrev pub call_for : Plans → List Meter → Option Command → Fetches → Writes → Call
call_for plans meters command shelf out =
    call_of (words_if_any command) (task_of plans meters command) shelf out

-- nothing is written and no fault is counted there, and meters tell nothing
pub record IsSilent (c : Call) (told : List ℕ) : Type 0 where
  pub unwritten : TookNothing c.out
  pub untold : told ≡ []

-- no file is asked for
pub record IsNoTask (c : Call) (told : List ℕ) : Type 0 where
  pub none : c.task ≡ None
  pub asked : c.shelf.asked []
  pub silent : IsSilent c told

-- the files before this one were fetched, and this one wasn't, for this cause; none behind it was
-- asked for
pub record IsUnfetched
    (c : Call) (told : List ℕ) (file : ℕ) (cause : Held → (limit : ℕ) → Type 0) : Type 0 where
  pub task : Task
  pub is_task : c.task ≡ Some task
  pub among : file < length (limits_of task)
  pub before : WereFetched c.shelf.holds c.words (limits_of task) file
  pub asked : c.shelf.asked (names_of c.words (limits_of task) (suc file))
  pub is_cause : cause (c.shelf.holds (word_at c.words file)) (limit_at (limits_of task) file)
  pub silent : IsSilent c told

-- these are the files of what is asked for, and each was asked for once
pub record HasFiles (c : Call) (task : Task) (files : List (List ℕ)) : Type 0 where
  pub is_task : c.task ≡ Some task
  pub are_files : AreFiles c.shelf.holds c.words (limits_of task) files
  pub asked : c.shelf.asked (names_of c.words (limits_of task) (length (limits_of task)))

-- the files were fetched, and are refused with this answer
pub record AreRefused (c : Call) (told : List ℕ) (end : Answer) : Type 0 where
  pub task : Task
  pub files : List (List ℕ)
  pub fetched : HasFiles c task files
  pub judged : IsJudged files task (refuses end)
  pub silent : IsSilent c told

-- the files were fetched, this was done with them, and this came of it
pub record WasDone (c : Call) (does : List (List ℕ) → Task → Verdict → Type 0)
    (outcome : Task → Verdict → Type 0) : Type 0 where
  pub task : Task
  pub files : List (List ℕ)
  pub fetched : HasFiles c task files
  pub run : Verdict
  pub done : does files task run
  pub came : outcome task run

-- all that a run was to write was written, and its answer is that of the call; the meters were told
-- the items of the run
pub record IsWhole
    (c : Call) (told : List ℕ) (end : Answer) (task : Task) (run : Verdict) : Type 0 where
  pub answered : end ≡ run.answer
  pub written : TookAll c.out run.text
  pub tells : HasTold run.items (meters_of task) told

-- a front part of what a run was to write was written, and the meters tell nothing
pub record IsPart (c : Call) (told : List ℕ) (task : Task) (run : Verdict) : Type 0 where
  pub written : TookFront c.out run.text
  pub untold : told ≡ []

-- there was no memory: some of the files were asked for, and nothing is written
pub record HadNoMemory (c : Call) (told : List ℕ) : Type 0 where
  pub task : Task
  pub is_task : c.task ≡ Some task
  pub count : ℕ
  pub few : count ≤ length (limits_of task)
  pub asked : c.shelf.asked (names_of c.words (limits_of task) count)
  pub silent : IsSilent c told

-- why a call has its answer, and its meters tell this, in the order of the statuses
abbrev pub Comes : Call → (told : List ℕ) → Answer → Type 0
Comes c told answer.End = WasDone c IsDoneWhole (IsWhole c told answer.End)
Comes c told answer.Usage = IsNoTask c told
Comes c told (answer.Unreadable file) =
    IsUnfetched c told file (λ held limit. c.shelf.rose ⊎ (held ≡ nothing))
Comes c told (answer.TooLong file) = IsUnfetched c told file Longer
Comes c told (answer.Syntax line) = AreRefused c told (answer.Syntax line)
Comes c told (answer.Rule line rule) = AreRefused c told (answer.Rule line rule)
Comes c told (answer.BadSensors row) = AreRefused c told (answer.BadSensors row)
Comes c told (answer.BadPower row) = AreRefused c told (answer.BadPower row)
Comes c told answer.Trapped = WasDone c IsDoneWhole (IsWhole c told answer.Trapped)
Comes c told answer.Dark = WasDone c IsDoneWhole (IsWhole c told answer.Dark)
Comes c told answer.WriteFault = WasDone c IsDone (IsPart c told)
Comes c told answer.Memory = HadNoMemory c told
Comes c told answer.Cut = WasDone c IsDoneWhole (IsWhole c told answer.Cut)
Comes c told (answer.Dishonest item) = AreRefused c told (answer.Dishonest item)
Comes c told (answer.BadReport line) = AreRefused c told (answer.BadReport line)
Comes c told (answer.BadImage at) = AreRefused c told (answer.BadImage at)
Comes c told answer.Refused = AreRefused c told answer.Refused
Comes c told (answer.Uncovered gap) = AreRefused c told (answer.Uncovered gap)
