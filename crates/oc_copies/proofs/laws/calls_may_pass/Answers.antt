use Rattle.oc_copies.proofs.MayPass.{calls_may_pass}
use Rattle.oc_copies.proofs.laws.calls_may_pass.Goals as goal

pub returns : goal.returns
returns c = calls_may_pass
