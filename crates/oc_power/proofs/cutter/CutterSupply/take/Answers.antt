use Rattle.oc_power.proofs.Pieces.{total-cut_rows}
use Rattle.oc_power.proofs.cutter.CutterSupply.take.Goals as goal

pub returns-clause-sum : goal.returns-clause-sum
returns-clause-sum c = λ small. rw total-cut_rows small
