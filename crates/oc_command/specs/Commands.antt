-- The command lines.
use Rattle.std.specs.Prelude.{ℕ, ◌==◌, ◌&&◌, Bool, true, false, not, List, [], ◌∷◌, ◌≤◌, length, get_or, codes, Option, Some, None, option_and_then, option_map, nat_le, nat_lt, if◌then◌else◌}
use Rattle.std.specs.Str.{bytes_eq}
use Rattle.oc_lex.specs.Limits.{source_limit}
use Rattle.oc_drill.specs.Drill.{turn_limit}
use Rattle.oc_io.specs.declared.period.Period.{Period}
use Rattle.oc_power.specs.Choice.{first_with}
use Rattle.oc_rows.specs.Numbers.{number_of}
use Rattle.oc_meters.specs.Tally.{Reading}
use Rattle.oc_command.specs.declared.command.RunWords.{RunWords}
use Rattle.oc_command.specs.declared.command.SourceTask.{SourceTask}
use Rattle.oc_command.specs.declared.command.SourceTask.TheVariants as tasks
use Rattle.oc_command.specs.declared.command.Command.{Command as Written}
use Rattle.oc_command.specs.declared.command.Command.TheVariants as written

-- a word may stand for a file: it isn't empty and doesn't begin with `-`
abbrev pub is_file : List ℕ → Bool
is_file [] = false
is_file (b ∷ rest) = not (b == 45)

-- a number that names a supply
abbrev pub supply_named : ℕ → Option ℕ
supply_named number = if nat_lt number 256 then Some number else None

-- the supply's number that a word spells: 1 to 3 digits, at most 255
abbrev pub supply_of : List ℕ → Option ℕ
supply_of word =
    if nat_le (length word) 3 then option_and_then supply_named (number_of word) else None

-- a number of turns that a drill may have
abbrev pub turns_named : ℕ → Option ℕ
turns_named number = if nat_le 1 number && nat_le number turn_limit then Some number else None

-- the turns that a word spells: 1 to 4 digits, from 1 to the most
abbrev pub turns_of : List ℕ → Option ℕ
turns_of word =
    if nat_le (length word) 4 then option_and_then turns_named (number_of word) else None

-- what a line of words asks for, with the words of its files in their order
pub data Command : Type 0 where
  -- a run of a source, metered or not, with the supply of this number
  Run : (supply : ℕ) → (metered : Bool) → (files : List (List ℕ)) → Command
  -- a drill of so many turns
  Drill : (turns : ℕ) → Command
  -- what may be done with a source alone
  Source : SourceTask → (source : List ℕ) → Command
  -- a run of an image
  Exec : (files : List (List ℕ)) → Command
  -- an audit of a report
  Audit : (source report : List ℕ) → Command

-- the words of a run's files, in their order
abbrev pub run_words : RunWords → List (List ℕ)
run_words files = files.source.now ∷ files.sensors.now ∷ files.power.now ∷ []

abbrev pub command_view : Written → Command
command_view (written.Run supply metered files) = Run supply metered (run_words files)
command_view (written.Drill turns) = Drill turns
command_view (written.Source task source) = Source task source.now
command_view (written.Exec files) = Exec (run_words files)
command_view (written.Audit source report) = Audit source.now report.now

-- the words of the files of a command
abbrev pub file_words : Command → List (List ℕ)
file_words (Run supply metered files) = files
file_words (Drill turns) = []
file_words (Source task source) = source ∷ []
file_words (Exec files) = files
file_words (Audit source report) = source ∷ report ∷ []

-- a drill of so many turns, where the number is there
abbrev pub drill_with : Option ℕ → Option Command
drill_with None = None
drill_with (Some turns) = Some (Drill turns)

-- a run of these files with this supply, where it has one
abbrev pub run_with : Option ℕ → (metered : Bool) → (files : List (List ℕ)) → Option Command
run_with None metered files = None
run_with (Some supply) metered files = Some (Run supply metered files)

-- the words of three files, where each may stand for one
abbrev pub files_with : List ℕ → List ℕ → List ℕ → Option (List (List ℕ))
files_with source sensors power =
    if is_file source && is_file sensors && is_file power
    then Some (source ∷ sensors ∷ power ∷ []) else None

-- what a word and a source ask for
abbrev pub source_task_of : List ℕ → Option SourceTask
source_task_of word =
    if bytes_eq word (codes "regions") then Some tasks.Regions
    else if bytes_eq word (codes "build") then Some tasks.Build
    else if bytes_eq word (codes "check") then Some tasks.Check else None

-- the command of one word and another
abbrev pub with_one : List ℕ → List ℕ → Option Command
with_one word other =
    if bytes_eq word (codes "drill") then drill_with (turns_of other)
    else if is_file other
    then option_map (λ task. Source task other) (source_task_of word) else None

-- the command of one word and two others
abbrev pub with_two : List ℕ → List ℕ → List ℕ → Option Command
with_two word second third =
    if bytes_eq word (codes "audit") && is_file second && is_file third
    then Some (Audit second third)
    else if bytes_eq word (codes "build") && bytes_eq second (codes "--image") && is_file third
    then Some (Source tasks.Image third) else None

-- the command of a word and three files
abbrev pub with_three : List ℕ → (files : List (List ℕ)) → Option Command
with_three word files =
    if bytes_eq word (codes "run") then run_with (Some 0) false files
    else if bytes_eq word (codes "exec") then Some (Exec files) else None

-- the command of two words and three files: a metered run
abbrev pub with_meters : List ℕ → List ℕ → (files : List (List ℕ)) → Option Command
with_meters word option files =
    if bytes_eq word (codes "run") && bytes_eq option (codes "--meters")
    then run_with (Some 0) true files else None

-- the command of three words and three files: a run with a supply
abbrev pub with_supply : List ℕ → List ℕ → List ℕ → (files : List (List ℕ)) → Option Command
with_supply word option number files =
    if bytes_eq word (codes "run") && bytes_eq option (codes "--supply")
    then run_with (supply_of number) false files else None

-- the command of four words and three files: a metered run with a supply
abbrev pub with_both : List ℕ → List ℕ → List ℕ → List ℕ → (files : List (List ℕ)) → Option Command
with_both word option number meters files =
    if bytes_eq word (codes "run")
    && bytes_eq option (codes "--supply") && bytes_eq meters (codes "--meters")
    then run_with (supply_of number) true files else None

-- the command of a line of words
abbrev pub command_of : List (List ℕ) → Option Command
command_of (word ∷ other ∷ []) = with_one word other
command_of (word ∷ second ∷ third ∷ []) = with_two word second third
command_of (word ∷ source ∷ sensors ∷ power ∷ []) =
    option_and_then (with_three word) (files_with source sensors power)
command_of (word ∷ option ∷ source ∷ sensors ∷ power ∷ []) =
    option_and_then (with_meters word option) (files_with source sensors power)
command_of (word ∷ option ∷ number ∷ source ∷ sensors ∷ power ∷ []) =
    option_and_then (with_supply word option number) (files_with source sensors power)
command_of (word ∷ option ∷ number ∷ meters ∷ source ∷ sensors ∷ power ∷ []) =
    option_and_then (with_both word option number meters) (files_with source sensors power)
command_of other = None

-- a drill has few turns
abbrev pub HasFewTurns : Command → Type 0
HasFewTurns (Drill turns) = turns ≤ turn_limit
HasFewTurns command = Unit {0}

-- the words of the files of a command, where there is one
abbrev pub words_if_any : Option Command → List (List ℕ)
words_if_any None = []
words_if_any (Some command) = file_words command

-- and of what a line of words was read as
abbrev pub words_read : Option Written → List (List ℕ)
words_read command = words_if_any (option_map command_view command)

-- what a supply tells of the rows that it is fed
abbrev pub Plan : Type 0
Plan = List Period → List Period

-- what the first supply with each number tells, where there is one
abbrev pub Plans : Type 0
Plans = ℕ → Option Plan

-- what the first box with each number tells
abbrev pub plans_of : {B : Type 0} → (B → ℕ) → (B → Plan) → List B → Plans
plans_of number plan boxes = λ k. option_map plan (first_with number k boxes)

-- what a command asks for, with what its supply and meters tell
pub data Task : Type 0 where
  -- a run with a supply that tells this, and the lines of these meters, if any
  report : Plan → Option (List Reading) → Task
  -- a drill of so many turns, with a supply that tells this
  drill : ℕ → Plan → Task
  -- the regions of a source
  regions : Task
  -- the listing of the image of a source
  listing : Task
  -- the bytes of the image of a source
  imaging : Task
  -- a verdict on the blocks of a source
  checking : Task
  -- a verdict on a report
  auditing : Task
  -- a run of an image, with a supply that tells this
  executing : Plan → Task

-- the task that is done with a source alone
abbrev pub source_task : SourceTask → Task
source_task tasks.Regions = regions
source_task tasks.Build = listing
source_task tasks.Image = imaging
source_task tasks.Check = checking

-- what a command asks for, with these supplies and meters
abbrev pub task_for : Plans → List Reading → Command → Option Task
task_for plans meters (Run supply metered files) =
    option_map (λ plan. report plan (if metered then Some meters else None)) (plans supply)
task_for plans meters (Drill turns) = option_map (drill turns) (plans 0)
task_for plans meters (Source task source) = Some (source_task task)
task_for plans meters (Audit source audited) = Some auditing
task_for plans meters (Exec files) = option_map executing (plans 0)

-- what a line of words asks for, where it is a command, with these supplies and meters
abbrev pub task_of : Plans → List Reading → Option Command → Option Task
task_of plans meters None = None
task_of plans meters (Some command) = task_for plans meters command

-- how many bytes a file of rows or a report may have: 16 MiB
abbrev pub rows_limit : ℕ
rows_limit = 16777216

-- how many bytes an image may have: 64 MiB
abbrev pub image_limit : ℕ
image_limit = 67108864

-- the limits of a run's files, the first of which has this one
abbrev pub run_limits : ℕ → List ℕ
run_limits limit = limit ∷ rows_limit ∷ rows_limit ∷ []

-- the limits of an audit's files: the source and the report
abbrev pub audit_limits : List ℕ
audit_limits = source_limit ∷ rows_limit ∷ []

-- the limits of the files that a task reads, in the order of their words
abbrev pub limits_of : Task → List ℕ
limits_of (report plan meters) = run_limits source_limit
limits_of (drill turns plan) = []
limits_of auditing = audit_limits
limits_of (executing plan) = run_limits image_limit
limits_of source_alone = source_limit ∷ []

-- the meters whose lines are wanted, if any
abbrev pub meters_of : Task → Option (List Reading)
meters_of (report plan meters) = meters
meters_of other = None

-- the word at a place, or none where there are fewer
abbrev pub word_at : List (List ℕ) → ℕ → List ℕ
word_at words place = get_or words place []
