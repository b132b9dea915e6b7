use Rattle.oc_flow.proofs.FlowLaw.{flows_decide}
use Rattle.oc_flow.proofs.Ranks.{ranked}
use Rattle.oc_flow.proofs.laws.flows_is_flow.Goals as goal

pub returns : goal.returns
returns c = λ p groups checked f u v. flows_decide p (ranked p groups checked) f u v
