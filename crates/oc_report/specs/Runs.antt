-- What commands answer and write, and the runs of images over files.
use Rattle.std.specs.Prelude.{ℕ, ◌<◌, ◌^◌, Bool, true, false, List, All, [], map, FitsSigned}
use Rattle.std.specs.Int.{w32}
use Rattle.oc_io.specs.declared.period.Period.{Period}
use Rattle.oc_power.specs.Power.{Power, power_file}
use Rattle.oc_power.specs.Power as power_rows
use Rattle.oc_sensors.specs.declared.sensors.Row.{Row}
use Rattle.oc_sensors.specs.File.{Readings, sensor_file}
use Rattle.oc_sensors.specs.File as sensor_rows
use Rattle.oc_sensors.specs.History.{history}
use Rattle.oc_isa.specs.Image.{Parts}
use Rattle.oc_isa.specs.Power.{power_run}
use Rattle.oc_isa.specs.Table.{device_of}
use Rattle.oc_items.specs.OneText.{IsItem}
use Rattle.oc_items.specs.Reading.{place_of}
use Rattle.oc_items.specs.Told.{item_of}
use Rattle.oc_items.specs.declared.item.Item.{Item}
use Rattle.oc_command.specs.Commands.{Plan}
use Rattle.oc_command.specs.Files.{Files}
use Rattle.oc_command.specs.declared.answer.Answer.{Answer}
use Rattle.oc_command.specs.declared.answer.Answer.TheVariants as answer
use Rattle.oc_report.specs.Reports.{answer_of, text_of}

-- what a command answers and writes
pub record Verdict : Type 0 where
  -- the answer
  pub answer : Answer
  -- the text on the standard output
  pub text : List ℕ
  -- the items of a report, which meters are told
  pub items : List Item

-- an answer with a text that is no report
abbrev pub says : Answer → List ℕ → Verdict
says end text = record { answer = end; text = text; items = [] }

-- the answer to a run or to a text that was written
abbrev pub is_of_run : Answer → Bool
is_of_run answer.End = true
is_of_run answer.Trapped = true
is_of_run answer.Dark = true
is_of_run answer.Cut = true
is_of_run other = false

-- the answer to files that are refused
abbrev pub is_refusal : Answer → Bool
is_refusal (answer.Syntax line) = true
is_refusal (answer.Rule line rule) = true
is_refusal (answer.BadSensors row) = true
is_refusal (answer.BadPower row) = true
is_refusal (answer.BadImage at) = true
is_refusal answer.Refused = true
is_refusal (answer.Dishonest item) = true
is_refusal (answer.BadReport line) = true
is_refusal (answer.Uncovered gap) = true
is_refusal other = false

-- files are refused with this answer, and nothing is written
abbrev pub refuses : Answer → Verdict
refuses end = says end []

-- the run of an image over these periods
abbrev pub runs : Parts → List Row → List Period → Verdict
runs parts rows periods = record {
  answer = answer_of (power_run (device_of parts) (history rows) periods).state.phase;
  text = text_of parts (power_run (device_of parts) (history rows) periods);
  items = map item_of (power_run (device_of parts) (history rows) periods).report;
}

-- the items of a run are items of a report under the names of the image, the numbers of their
-- sensors and ports fit their types, and each nonvolatile word that it leaves fits 32 bits
pub record RunFits (parts : Parts) (rows : List Row) (periods : List Period) : Type 0 where
  pub each : All (IsItem parts.names) (runs parts rows periods).items
  pub places : All (λ i. place_of i < 2 ^ 8) (runs parts rows periods).items
  pub words : All (FitsSigned w32) (power_run (device_of parts) (history rows) periods).state.nv

-- the run of an image over what the sensor file and the power file tell, or the first bad row, that
-- of the sensors before that of the power
abbrev pub with_sensors : Parts → Readings → Power → Plan → Verdict
with_sensors parts (sensor_rows.bad row) power plan = refuses (answer.BadSensors row)
with_sensors parts (sensor_rows.readings rows) (power_rows.bad row) plan =
    refuses (answer.BadPower row)
with_sensors parts (sensor_rows.readings rows) (power_rows.periods periods) plan =
    runs parts rows (plan periods)

-- the run of an image over the files of the sensors and of the power, or the first bad row of these
abbrev pub with_parts : Parts → Files → Plan → Verdict
with_parts parts files plan =
    with_sensors parts (sensor_file parts.names.sensors files.sensors) (power_file files.power) plan

-- this text is printed
abbrev pub prints : List ℕ → Verdict
prints text = says answer.End text
