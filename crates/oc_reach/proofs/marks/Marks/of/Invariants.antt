use Rattle.std.proofs.Common.{◌≡◌, ℕ, false, length, take}
use Rattle.std.proofs.Math.ListN.{get_or}
use Rattle.oc_reach.specs.Marked.{is_in}
use Rattle.oc_reach.proofs.marks.Marks.of.Given as goal

abbrev pub invariant-loop-i : goal.invariant-loop-i
invariant-loop-i l = record {
  bound : l.marks.1 ≡ length l.tests;
  marked : (v : ℕ) → is_in l.marks.0 v ≡ get_or (take l.i l.tests) v false;
}
