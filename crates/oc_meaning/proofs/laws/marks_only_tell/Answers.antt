use Rattle.oc_meaning.proofs.Bare.{only_tell}
use Rattle.oc_meaning.proofs.laws.marks_only_tell.Goals as goal

pub returns : goal.returns
returns c = only_tell
