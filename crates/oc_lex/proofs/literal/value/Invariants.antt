use Rattle.std.proofs.Common.{◌≡◌, ◌≤◌, drop}
use Rattle.oc_lex.specs.Bytes.{value_of}
use Rattle.oc_lex.proofs.Values.{value_from}
use Rattle.oc_lex.proofs.literal.value.Given as goal

abbrev pub invariant-loop-digit : goal.invariant-loop-digit
invariant-loop-digit l = (value_from l.total (drop l.digit-index l.digits) ≡ value_of l.digits) × (l.total ≤ 2147483647)
