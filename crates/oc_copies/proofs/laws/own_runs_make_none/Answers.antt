use Rattle.oc_copies.proofs.Making.{own_runs_make_none}
use Rattle.oc_copies.proofs.laws.own_runs_make_none.Goals as goal

pub returns : goal.returns
returns c = own_runs_make_none
