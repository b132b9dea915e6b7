use Rattle.oc_copies.proofs.DoCopy.{main_copies}
use Rattle.oc_copies.proofs.laws.main_copies.Goals as goal

pub returns : goal.returns
returns c = main_copies
