use Rattle.oc_copies.proofs.Copied.{calls_copy_back}
use Rattle.oc_copies.proofs.laws.calls_copy_back.Goals as goal

pub returns : goal.returns
returns c = calls_copy_back
