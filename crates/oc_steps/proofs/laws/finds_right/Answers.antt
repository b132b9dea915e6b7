use Rattle.oc_steps.proofs.Auditing.{finds_right}
use Rattle.oc_steps.proofs.laws.finds_right.Goals as goal

pub returns : goal.returns
returns c = finds_right
