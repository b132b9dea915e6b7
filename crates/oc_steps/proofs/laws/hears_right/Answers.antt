use Rattle.oc_steps.proofs.Auditing.{hears_right}
use Rattle.oc_steps.proofs.laws.hears_right.Goals as goal

pub returns : goal.returns
returns c = hears_right
