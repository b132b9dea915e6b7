use Rattle.oc_steps.proofs.AgesTell.{ages_tell}
use Rattle.oc_steps.proofs.laws.ages_tell.Goals as goal

pub returns : goal.returns
returns c = ages_tell
