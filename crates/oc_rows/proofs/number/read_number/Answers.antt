use Rattle.std.proofs.Common.{arith}
use Rattle.oc_rows.proofs.Numbers.{eighteen}
use Rattle.oc_rows.proofs.number.read_number.Goals as goal

pub overflow_mul-number : goal.overflow_mul-number
overflow_mul-number c = omega (arith, eighteen c.loop-byte.number c.loop-byte.byte-index c.loop-byte.invariant.small (omega arith))

pub overflow_add-number : goal.overflow_add-number
overflow_add-number c = omega (arith, eighteen c.loop-byte.number c.loop-byte.byte-index c.loop-byte.invariant.small (omega arith))
