use Rattle.oc_steps.proofs.Answering.{tells_right}
use Rattle.oc_steps.proofs.laws.tells_right.Goals as goal

pub returns : goal.returns
returns c = tells_right
