use Rattle.oc_power.proofs.Pieces.{total-cut_rows}
use Rattle.oc_power.proofs.cutter.CutterSupply.feed.Goals as goal

pub returns-clause-sum : goal.returns-clause-sum
returns-clause-sum c = λ small. rw total-cut_rows small

pub returns-in_err-from_slice-clause-sum : goal.returns-in_err-from_slice-clause-sum
returns-in_err-from_slice-clause-sum c = λ small. rw total-cut_rows small
