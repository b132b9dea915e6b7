use Rattle.std.proofs.Common.{◌≡◌, drop}
use Rattle.oc_regcheck.specs.Inputs.{same_sites}
use Rattle.oc_regcheck.proofs.inputs.is_same.Given as goal

abbrev pub invariant-loop-i : goal.invariant-loop-i
invariant-loop-i l = same_sites (drop l.i l.left) (drop l.i l.right) ≡ same_sites l.left l.right
