use Rattle.oc_timely.proofs.AllFlow.{all_flow}
use Rattle.oc_timely.proofs.Parted.{runs_part_none}
use Rattle.oc_timely.proofs.laws.runs_part_none.Goals as goal

pub returns : goal.returns
returns c = runs_part_none all_flow
