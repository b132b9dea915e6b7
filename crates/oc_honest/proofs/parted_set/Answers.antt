use Rattle.oc_honest.proofs.Untimely.{parted_set}
use Rattle.oc_honest.proofs.parted_set.Goals as goal

pub returns : goal.returns
returns c = parted_set
