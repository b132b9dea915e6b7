use Rattle.oc_honest.proofs.Untimely.{late_use}
use Rattle.oc_honest.proofs.late_use.Goals as goal

pub returns : goal.returns
returns c = late_use
