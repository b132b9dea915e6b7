use Rattle.std.proofs.Common.{arith, refl}
use Rattle.oc_lex.specs.Bytes.{value_of}
use Rattle.oc_lex.proofs.literal.value.Goals as goal

pub loop-digit-init : goal.loop-digit-init
unfolding value_of
loop-digit-init c = (refl, omega arith)
