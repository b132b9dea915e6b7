use Rattle.std.proofs.Common.{arith}
use Rattle.oc_drill.specs.Drill.{sensor_row}
use Rattle.oc_drill.proofs.Rows.{row_on}
use Rattle.oc_drill.proofs.files.sensors.Goals as goal

pub loop-place-preserved : goal.loop-place-preserved
loop-place-preserved c = row_on sensor_row _ _ c.loop-place.place c.args.turns _ (omega arith) c.in_ok-add_sample.ensures c.loop-place.invariant
