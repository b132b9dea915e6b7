use Rattle.std.proofs.Common.{◌≡◌, ℕ, length}
use Rattle.oc_judge.specs.Seeking.{found_for}
use Rattle.oc_judge.proofs.seeking.grow.Given as goal

abbrev pub invariant-loop-entry : goal.invariant-loop-entry
invariant-loop-entry l = record {
  length : length l.found.items ≡ l._entry;
  same : (m : ℕ) → found_for l.found.items m ≡ found_for l.initial.found.items m;
}
