use Rattle.oc_copies.proofs.Making.{statements_make}
use Rattle.oc_copies.proofs.laws.statements_make.Goals as goal

pub returns : goal.returns
returns c = statements_make
