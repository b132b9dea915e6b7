use Rattle.std.proofs.Common.{◌≡◌, ℕ, true, length, take}
use Rattle.oc_reach.specs.Marked.{is_in, rows}
use Rattle.oc_weight.specs.Order.{IsBegun, row_links}
use Rattle.oc_weight.proofs.called.+mark_behind.Given as goal

abbrev pub decreases-mark_behind : goal.decreases-mark_behind
decreases-mark_behind l = l.depth

abbrev pub invariant-loop-callee : goal.invariant-loop-callee
invariant-loop-callee l = record {
  bound : l.marks.1 ≡ l.initial.marks.1;
  begun : IsBegun (row_links 0 (rows l.callees)) (length l.callees) l.marks.0;
  kept : (v : ℕ) → is_in l.initial.marks.0 v ≡ true → is_in l.marks.0 v ≡ true;
  done : (v : ℕ) → is_in (take l.callee-index l.callee-items) v ≡ true → is_in l.marks.0 v ≡ true;
}
