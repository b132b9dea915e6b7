use Rattle.oc_verify.proofs.WholeLaws.{read_back}
use Rattle.oc_verify.proofs.laws.images_are_read.Goals as goal

pub returns : goal.returns
returns c = λ bytes i h. read_back bytes i h
