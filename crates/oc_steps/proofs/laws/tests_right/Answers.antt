use Rattle.oc_steps.proofs.Freshness.{tests_right}
use Rattle.oc_steps.proofs.laws.tests_right.Goals as goal

pub returns : goal.returns
returns c = tests_right
