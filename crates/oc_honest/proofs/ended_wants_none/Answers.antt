use Rattle.oc_honest.proofs.Shorts.{ended_not_short}
use Rattle.oc_honest.proofs.ended_wants_none.Goals as goal

pub returns : goal.returns
returns c = ended_not_short
