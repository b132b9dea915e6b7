use Rattle.oc_flow.proofs.Fixpoint.{brings_fix}
use Rattle.oc_flow.proofs.Ranks.{ranked}
use Rattle.oc_flow.proofs.laws.brings_by_callees.Goals as goal

pub returns : goal.returns
returns c = λ p groups checked f a i v. brings_fix p (ranked p groups checked) f a i v
