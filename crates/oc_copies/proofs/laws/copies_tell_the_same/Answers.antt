use Rattle.oc_copies.proofs.DoCopy.{copies_tell_the_same}
use Rattle.oc_copies.proofs.laws.copies_tell_the_same.Goals as goal

pub returns : goal.returns
returns c = copies_tell_the_same
