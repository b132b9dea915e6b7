use Rattle.std.proofs.Common.{◌-◌, length}
use Rattle.oc_sensors.specs.Keeping.{Keeps}
use Rattle.oc_sensors.proofs.sensors.move_on.Given as goal

abbrev pub invariant-loop-at : goal.invariant-loop-at
invariant-loop-at l = Keeps l.rows l.last l.at l.now

abbrev pub decreases-loop-at : goal.decreases-loop-at
decreases-loop-at l = length l.rows - l.at
