use Rattle.oc_flow.proofs.Fixpoint.{flow_fix}
use Rattle.oc_flow.proofs.Ranks.{ranked}
use Rattle.oc_flow.proofs.laws.flows_by_callees.Goals as goal

pub returns : goal.returns
returns c = λ p groups checked f u v. flow_fix p (ranked p groups checked) f u v
