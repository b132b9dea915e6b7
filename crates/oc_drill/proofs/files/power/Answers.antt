use Rattle.std.proofs.Common.{◌+◌, ◌*◌, arith}
use Rattle.oc_drill.specs.Drill.{power_row}
use Rattle.oc_drill.proofs.Rows.{row_on}
use Rattle.oc_drill.proofs.files.power.Goals as goal

pub loop-place-preserved : goal.loop-place-preserved
loop-place-preserved c = row_on power_row _ _ c.loop-place.place (24 * c.args.turns + 8) _ (omega arith) c.in_ok-add_period.ensures c.loop-place.invariant
