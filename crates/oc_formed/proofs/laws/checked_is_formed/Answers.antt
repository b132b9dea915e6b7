use Rattle.oc_formed.proofs.Law.{checked_formed}
use Rattle.oc_formed.proofs.laws.checked_is_formed.Goals as goal

pub returns : goal.returns
returns c = checked_formed
