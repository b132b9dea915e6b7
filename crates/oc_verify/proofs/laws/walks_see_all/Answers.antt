use Rattle.oc_verify.proofs.Working.{ends}
use Rattle.oc_verify.proofs.laws.walks_see_all.Goals as goal

pub returns : goal.returns
returns c = λ i f ks tab w a p r. ends i f ks tab w r.0 a p r.1
