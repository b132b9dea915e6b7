use Rattle.oc_honest.proofs.Deciding.{tests_tell}
use Rattle.oc_honest.proofs.tests_tell.Goals as goal

pub returns : goal.returns
returns c = tests_tell
