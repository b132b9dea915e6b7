use Rattle.oc_copies.proofs.Copied.{calls_copy}
use Rattle.oc_copies.proofs.laws.calls_copy.Goals as goal

pub returns : goal.returns
returns c = calls_copy
