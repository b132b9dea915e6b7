use Rattle.oc_formed.proofs.Law.{marked_program_formed}
use Rattle.oc_formed.proofs.laws.marked_is_formed.Goals as goal

pub returns : goal.returns
returns c = marked_program_formed
