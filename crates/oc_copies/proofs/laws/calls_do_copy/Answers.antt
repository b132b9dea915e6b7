use Rattle.oc_copies.proofs.DoCopy.{calls_do_copy}
use Rattle.oc_copies.proofs.laws.calls_do_copy.Goals as goal

pub returns : goal.returns
returns c = calls_do_copy
