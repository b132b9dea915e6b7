use Rattle.oc_steps.proofs.Erasing.{erases}
use Rattle.oc_steps.proofs.laws.erases.Goals as goal

pub returns : goal.returns
returns c = erases
