use Rattle.std.proofs.Common.{length}
use Rattle.outage_table.proofs.count_left.Given as goal

abbrev pub decreases-loop-left : goal.decreases-loop-left
decreases-loop-left g l = length ((goal.Supply-dyn g l.supply.now).left l.supply.now.1)
