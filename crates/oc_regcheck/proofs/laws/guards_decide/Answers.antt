use Rattle.oc_flow.proofs.Ranks.{ranked}
use Rattle.oc_regcheck.proofs.Guards.{guarded_is}
use Rattle.oc_regcheck.proofs.laws.guards_decide.Goals as goal

pub returns : goal.returns
returns c = λ p groups checked blocks f. guarded_is p blocks (ranked p groups checked) f
