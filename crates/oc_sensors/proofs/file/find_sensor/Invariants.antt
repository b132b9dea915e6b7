use Rattle.std.proofs.Common.{◌≡◌, drop}
use Rattle.std.specs.List.{position_from}
use Rattle.std.specs.Str.{bytes_eq}
use Rattle.oc_sensors.specs.File.{sensor_of}
use Rattle.oc_sensors.proofs.file.find_sensor.Given as goal

abbrev pub invariant-loop-place : goal.invariant-loop-place
invariant-loop-place l = position_from (λ known. bytes_eq known l.name) l.place (drop l.place l.names) ≡ sensor_of l.names l.name
