use Rattle.oc_steps.proofs.Keeping.{steps_keep}
use Rattle.oc_steps.proofs.laws.steps_keep.Goals as goal

pub returns : goal.returns
returns c = steps_keep
