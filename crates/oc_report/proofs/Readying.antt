-- Why files aren't ready for a run, and that they are.
use Rattle.std.proofs.Common.{◌<◌, ◌^◌, ◌≡◌, ◌∙◌, sym, ap, refl, subst, inl, inr, List, length}
use Rattle.oc_power.specs.Power.{Power, power_file}
use Rattle.oc_power.specs.Power as power_rows
use Rattle.oc_power.specs.Causes as power_causes
use Rattle.oc_power.specs.declared.power.PowerError.{PowerError}
use Rattle.oc_power.specs.declared.power.PowerError.TheVariants as power_error
use Rattle.oc_sensors.specs.declared.sensors.Row.{Row}
use Rattle.oc_sensors.specs.File.{Readings, sensor_file}
use Rattle.oc_sensors.specs.File as sensor_rows
use Rattle.oc_sensors.specs.Causes as sensor_causes
use Rattle.oc_sensors.specs.declared.file.SensorError.{SensorError}
use Rattle.oc_sensors.specs.declared.file.SensorError.TheVariants as sensor_error
use Rattle.oc_io.specs.declared.period.Period.{Period}
use Rattle.oc_power.specs.Total.{total}
use Rattle.oc_sensors.specs.History.{Told}
use Rattle.oc_isa.specs.Image.{Parts}
use Rattle.oc_isa.specs.Power.{first_state}
use Rattle.oc_isa.specs.Run.{IsSound}
use Rattle.oc_isa.specs.Table.{device_of}
use Rattle.oc_machine.specs.Kept.{Running}
use Rattle.oc_command.specs.Commands.{Plan}
use Rattle.oc_command.specs.Files.{Files}
use Rattle.oc_command.specs.declared.answer.Answer.{Answer}
use Rattle.oc_report.specs.Runs.{with_sensors}
use Rattle.oc_report.specs.Ready.{IsNotReady, IsReadyFor, IsUnpowered, IsUnsensed, for_power, for_sensors}
use Rattle.oc_report.proofs.Readings.{shown_words}

module _ (files : Files) (plan : Plan) (parts : Parts) where
  sensors_by : (e : SensorError) → sensor_causes.ExplainsSensors (sensor_file parts.names.sensors files.sensors) e → IsNotReady parts files plan (for_sensors e)
  sensors_by (sensor_error.Row row what) x = inr (refl, ap (λ (r : Readings). with_sensors parts r (power_file files.power) plan) x)
  sensors_by sensor_error.Memory x = inl refl

  pub no_sensors : (end : Answer) → IsUnsensed (sensor_file parts.names.sensors files.sensors) end → IsNotReady parts files plan end
  no_sensors end u = rw u.is_answer (sensors_by u.error u.explained)

  power_by : (e : PowerError) (rows : List Row) → sensor_file parts.names.sensors files.sensors ≡ sensor_rows.readings rows
      → power_causes.ExplainsPower (power_file files.power) e → IsNotReady parts files plan (for_power e)
  power_by (power_error.Row row what) rows s x =
      inr (refl, ap (λ (r : Readings). with_sensors parts r (power_file files.power) plan) s ∙ ap (λ (p : Power). with_sensors parts (sensor_rows.readings rows) p plan) x)
  power_by power_error.Memory rows s x = inl refl

  pub no_power : (end : Answer) (rows : List Row) → sensor_file parts.names.sensors files.sensors ≡ sensor_rows.readings rows → IsUnpowered (power_file files.power) end
      → IsNotReady parts files plan end
  no_power end rows s u = rw u.is_answer (power_by u.error rows s u.explained)

module _ (files : Files) (plan : Plan) (machine : Running) (sensors : Told) (left : List Period) (parts : Parts) where
  -- a machine, sensors and periods that are ready
  pub is_ready : (periods : List Period) → machine ≡ record { parts = parts; state = first_state (device_of parts) } → IsSound (device_of parts)
      → sensor_file parts.names.sensors files.sensors ≡ sensor_rows.readings sensors.rows → sensors.sensors ≡ length parts.names.sensors → sensors.now ≡ 0
      → power_file files.power ≡ power_rows.periods periods → left ≡ plan periods → total left < 2 ^ 63 → IsReadyFor (λ i. i ≡ parts) files plan machine sensors left
  is_ready periods m b s n u p l t = subst (λ (x : Running). IsReadyFor (λ i. i ≡ parts) files plan x sensors left) (sym m) (record {
    can_run = record { loaded = refl; sound = b; counted = n; unread = u; words = shown_words parts.names.sensors files.sensors sensors.rows s; sum = t };
    built = refl;
    sensed = s;
    periods = periods;
    powered = p;
    planned = l;
  })

  -- and the image is one of these
  pub ready_for : (IsIt : Parts → Type 0) → IsIt parts → IsReadyFor (λ i. i ≡ parts) files plan machine sensors left → IsReadyFor IsIt files plan machine sensors left
  ready_for IsIt is r = record { can_run = r.can_run; built = subst IsIt (sym r.built) is; sensed = r.sensed; periods = r.periods; powered = r.powered; planned = r.planned }
