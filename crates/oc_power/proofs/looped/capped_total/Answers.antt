use Rattle.std.proofs.Common.{arith}
use Rattle.oc_power.proofs.Pieces.{row_summed}
use Rattle.oc_power.proofs.looped.capped_total.Goals as goal

pub loop-at-preserved : goal.loop-at-preserved
loop-at-preserved c =
    let summed = row_summed c.args.rows.now c.loop-at.at c.period-row.result c.period-row.ensures in
    omega (arith, summed, c.loop-at.invariant.0, c.loop-at.invariant.1, c.saturating_add.ensures, c.saturating_add-sum.ensures)
