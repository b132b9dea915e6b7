use Rattle.std.proofs.Common.{◌≡◌, [], replicate, vec_len}
use Rattle.oc_reach.specs.Marked.{rows}
use Rattle.oc_reach.proofs.reach.no_leaders.Given as goal

abbrev pub invariant-loop-i : goal.invariant-loop-i
invariant-loop-i l = record {
  bound : vec_len l.leaders ≡ l._i;
  none : rows l.leaders.items ≡ replicate l._i [];
}
