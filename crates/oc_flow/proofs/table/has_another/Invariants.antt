use Rattle.std.proofs.Common.{◌≡◌, ◌<◌, ℕ, false}
use Rattle.std.specs.Prelude.{nat_eq}
use Rattle.std.proofs.Math.ListN.{get_or}
use Rattle.oc_flow.proofs.table.has_another.Given as goal

abbrev pub invariant-loop-i : goal.invariant-loop-i
invariant-loop-i l = l.found ≡ false → (j : ℕ) → j < l.i → nat_eq j l.number ≡ false → get_or l.row j false ≡ false
