use Rattle.oc_steps.proofs.Answering.{none_falls}
use Rattle.oc_steps.proofs.laws.none_falls.Goals as goal

pub returns : goal.returns
returns c = none_falls
