use Rattle.std.proofs.Common.{◌≡◌, ◌<◌, ℕ, true, length}
use Rattle.oc_reach.specs.Marked.{is_in, rows}
use Rattle.oc_weight.specs.Order.{IsBegun, row_links}
use Rattle.oc_weight.proofs.called.callees_first.Given as goal

abbrev pub invariant-loop-number : goal.invariant-loop-number
invariant-loop-number l = record {
  bound : l.marks.1 ≡ length l.functions;
  begun : IsBegun (row_links 0 (rows l.callees.items)) (length l.functions) l.marks.0;
  done : (v : ℕ) → v < l.number → is_in l.marks.0 v ≡ true;
}
