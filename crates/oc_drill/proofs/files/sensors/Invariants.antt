use Rattle.std.proofs.Common.{◌≡◌, ◌++◌, ◌-◌}
use Rattle.oc_drill.specs.Drill.{drill_sensors, sensor_row, rows}
use Rattle.oc_drill.proofs.files.sensors.Given as goal

abbrev pub invariant-loop-place : goal.invariant-loop-place
invariant-loop-place l = l.text.items ++ rows sensor_row l.place (l.turns - l.place) ≡ drill_sensors l.turns
