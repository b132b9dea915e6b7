use Rattle.oc_timely.proofs.Timely.{all_timely}
use Rattle.oc_timely.proofs.laws.marks_are_timely.Goals as goal

pub returns : goal.returns
returns c = all_timely
