use Rattle.std.proofs.Common.{◌≡◌, ℕ, true}
use Rattle.oc_reach.specs.Marked.{is_in}
use Rattle.oc_reach.proofs.Walk.{IsDone, IsFrom}
use Rattle.oc_reach.proofs.reach.Reach.mark_back.Given as goal

abbrev pub invariant-loop-i : goal.invariant-loop-i
invariant-loop-i l = record {
  bound : l.marks.1 ≡ l.self.1;
  started : (u : ℕ) → is_in l.initial.marks.0 u ≡ true → is_in l.marks.0 u ≡ true;
  sound : (u : ℕ) → is_in l.marks.0 u ≡ true → IsFrom l.self.0 l.self.1 l.initial.marks.0 u;
  done : IsDone l.self.0 l.marks.0 l.i;
}
