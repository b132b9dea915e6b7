use Rattle.oc_steps.proofs.Telling.{hears}
use Rattle.oc_steps.proofs.laws.hears.Goals as goal

pub returns : goal.returns
returns c = hears
