use Rattle.oc_flow.proofs.FlowLaw.{brings_decide}
use Rattle.oc_flow.proofs.Ranks.{ranked}
use Rattle.oc_flow.proofs.laws.brings_is_brings.Goals as goal

pub returns : goal.returns
returns c = λ p groups checked f a v i. brings_decide p (ranked p groups checked) f a v i
