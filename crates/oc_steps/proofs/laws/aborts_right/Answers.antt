use Rattle.oc_steps.proofs.Aborting.{aborts_right}
use Rattle.oc_steps.proofs.laws.aborts_right.Goals as goal

pub returns : goal.returns
returns c = aborts_right
