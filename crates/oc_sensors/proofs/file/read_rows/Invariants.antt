use Rattle.std.proofs.Common.{◌≡◌, ◌+◌, length}
use Rattle.oc_sensors.specs.File.{sensor_rows}
use Rattle.oc_sensors.specs.Causes.{why_rows}
use Rattle.oc_sensors.proofs.Before.{all_with}
use Rattle.oc_sensors.proofs.file.read_rows.Given as goal

abbrev pub invariant-loop-read : goal.invariant-loop-read
invariant-loop-read l = record {
  rows : all_with l.read.items (sensor_rows l.names (l.rows.number + 1) l.before l.rows.left) ≡ sensor_rows l.names (l.fn.rows.number + 1) 0 l.fn.rows.left;
  why : why_rows l.names l.before l.rows.left ≡ why_rows l.names 0 l.fn.rows.left;
}

abbrev pub decreases-loop-read : goal.decreases-loop-read
decreases-loop-read l = length l.rows.left
