use Rattle.std.proofs.Common.{◌≡◌, replicate, None}
use Rattle.oc_flow.proofs.functions.nothing_known.Given as goal

abbrev pub invariant-loop-f : goal.invariant-loop-f
invariant-loop-f l = l.known.items ≡ replicate l._f None
