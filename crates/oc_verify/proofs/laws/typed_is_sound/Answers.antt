use Rattle.oc_verify.proofs.Steps.{sound}
use Rattle.oc_verify.proofs.laws.typed_is_sound.Goals as goal

pub returns : goal.returns
returns c = λ i t ty. sound i t ty
