use Rattle.std.proofs.Common.{◌≡◌, ◌<◌, ℕ, true, drop}
use Rattle.oc_reach.specs.Marked.{is_in, add_all}
use Rattle.oc_reach.proofs.marks.Marks.mark_all.Given as goal

abbrev pub invariant-loop-number : goal.invariant-loop-number
invariant-loop-number l = record {
  bound : l.self.1 ≡ l.initial.self.1;
  added : add_all l.self.0 (drop l.number-index l.numbers) ≡ add_all l.initial.self.0 l.numbers;
  inside : (v : ℕ) → is_in (drop l.number-index l.numbers) v ≡ true → v < l.self.1;
}
