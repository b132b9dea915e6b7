use Rattle.oc_steps.proofs.Little.{says_little}
use Rattle.oc_steps.proofs.laws.says_little.Goals as goal

pub returns : goal.returns
returns c = says_little
