use Rattle.oc_steps.proofs.Starting.{starts_right}
use Rattle.oc_steps.proofs.laws.starts_right.Goals as goal

pub returns : goal.returns
returns c = starts_right
