use Rattle.oc_timely.proofs.Timely.{all_good}
use Rattle.oc_timely.proofs.laws.runs_are_good.Goals as goal

pub returns : goal.returns
returns c = all_good
