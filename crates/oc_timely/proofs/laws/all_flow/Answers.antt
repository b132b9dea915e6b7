use Rattle.oc_timely.proofs.AllFlow.{all_flow}
use Rattle.oc_timely.proofs.laws.all_flow.Goals as goal

pub returns : goal.returns
returns c = all_flow
