use Rattle.oc_steps.proofs.Resting.{rests_right}
use Rattle.oc_steps.proofs.laws.rests_right.Goals as goal

pub returns : goal.returns
returns c = rests_right
