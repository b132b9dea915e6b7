use Rattle.oc_honest.proofs.Items.{held_is_timely}
use Rattle.oc_honest.proofs.held_is_timely.Goals as goal

pub returns : goal.returns
returns c = held_is_timely
