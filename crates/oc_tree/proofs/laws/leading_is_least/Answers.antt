use Rattle.oc_tree.proofs.ReachLaws.{least_test}
use Rattle.oc_tree.proofs.laws.leading_is_least.Goals as goal

pub returns : goal.returns
returns c = least_test
