-- The steps before the first byte of a report is written, from an image on.
use Rattle.std.specs.Prelude.{ℕ, ◌<◌, ◌^◌, ◌≡◌, ◌⊎◌, true, List, length}
use Rattle.oc_io.specs.declared.period.Period.{Period}
use Rattle.oc_power.specs.Causes.{ExplainsPower}
use Rattle.oc_power.specs.Power.{Power, power_file}
use Rattle.oc_power.specs.Power as power_rows
use Rattle.oc_power.specs.Total.{total}
use Rattle.oc_power.specs.declared.power.PowerError.{PowerError}
use Rattle.oc_power.specs.declared.power.PowerError.TheVariants as power_error
use Rattle.oc_sensors.specs.Causes.{ExplainsSensors}
use Rattle.oc_sensors.specs.File.{Readings, sensor_file}
use Rattle.oc_sensors.specs.File as sensor_rows
use Rattle.oc_sensors.specs.History.{Told, history}
use Rattle.oc_sensors.specs.declared.file.SensorError.{SensorError}
use Rattle.oc_sensors.specs.declared.file.SensorError.TheVariants as sensor_error
use Rattle.oc_tree.specs.Word.{is_word}
use Rattle.oc_isa.specs.Image.{Parts}
use Rattle.oc_isa.specs.Power.{first_state}
use Rattle.oc_isa.specs.Run.{IsSound}
use Rattle.oc_isa.specs.Table.{device_of}
use Rattle.oc_machine.specs.Kept.{Running}
use Rattle.oc_command.specs.Commands.{Plan}
use Rattle.oc_command.specs.Files.{Files}
use Rattle.oc_command.specs.declared.answer.Answer.{Answer}
use Rattle.oc_command.specs.declared.answer.Answer.TheVariants as answer
use Rattle.oc_report.specs.Runs.{is_refusal, refuses, with_parts}

-- the answer to a sensor file that wasn't read, and to such a power file
abbrev pub for_sensors : SensorError → Answer
for_sensors (sensor_error.Row row what) = answer.BadSensors row
for_sensors sensor_error.Memory = answer.Memory

abbrev pub for_power : PowerError → Answer
for_power (power_error.Row row what) = answer.BadPower row
for_power power_error.Memory = answer.Memory

-- why a sensor file isn't read, and why such a power file isn't
pub record IsUnsensed (file : Readings) (end : Answer) : Type 0 where
  pub error : SensorError
  pub is_answer : end ≡ for_sensors error
  pub explained : ExplainsSensors file error

pub record IsUnpowered (file : Power) (end : Answer) : Type 0 where
  pub error : PowerError
  pub is_answer : end ≡ for_power error
  pub explained : ExplainsPower file error

-- a newly loaded machine with a sound image, its sensors, not read yet, which show words, and periods whose times are
-- below 2^63 in all
pub record CanRun (machine : Running) (sensors : Told) (left : List Period) : Type 0 where
  pub loaded : machine.state ≡ first_state (device_of machine.parts)
  pub sound : IsSound (device_of machine.parts)
  pub counted : sensors.sensors ≡ length machine.parts.names.sensors
  pub unread : sensors.now ≡ 0
  pub words : (sensor tick : ℕ) → is_word (history sensors.rows sensor tick) ≡ true
  pub sum : total left < 2 ^ 63

-- such a machine with an image that is this one, where the sensors show the rows of the sensor file, and the periods
-- are those that the supply tells of the rows of the power file
pub record IsReadyFor (IsIt : Parts → Type 0) (files : Files)
    (plan : Plan) (machine : Running) (sensors : Told) (left : List Period) : Type 0 where
  pub can_run : CanRun machine sensors left
  pub built : IsIt machine.parts
  pub sensed : sensor_file machine.parts.names.sensors files.sensors
      ≡ sensor_rows.readings sensors.rows
  pub periods : List Period
  pub powered : power_file files.power ≡ power_rows.periods periods
  pub planned : left ≡ plan periods

-- the files of an image's run are refused with this answer, or there was no memory
abbrev pub IsNotReady : Parts → Files → Plan → Answer → Type 0
IsNotReady parts files plan end =
    (end ≡ answer.Memory) ⊎ ((is_refusal end ≡ true) × (with_parts parts files plan ≡ refuses end))
