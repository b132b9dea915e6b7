use Rattle.oc_copies.proofs.Making.{calls_make_none}
use Rattle.oc_copies.proofs.laws.calls_make_none.Goals as goal

pub returns : goal.returns
returns c = calls_make_none
