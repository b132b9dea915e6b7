use Rattle.std.proofs.Common.{◌≡◌, drop}
use Rattle.oc_needs.specs.Code.{same_row}
use Rattle.oc_needs.proofs.need.is_same_row.Given as goal

abbrev pub invariant-loop-i : goal.invariant-loop-i
invariant-loop-i l = same_row (drop l.i l.left) (drop l.i l.right) ≡ same_row l.left l.right
