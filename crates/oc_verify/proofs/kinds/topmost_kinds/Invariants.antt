use Rattle.std.proofs.Common.{◌≡◌, ◌≤◌, length, take, drop}
use Rattle.oc_verify.specs.Stacks.{stack}
use Rattle.oc_verify.proofs.kinds.topmost_kinds.Given as goal

abbrev pub invariant-loop-done : goal.invariant-loop-done
invariant-loop-done l = record {
  rest : l.rest ≤ length l.tops;
  codes : l.codes.items ≡ take l._done (stack l.tops l.ops);
  below : stack l.tops l.rest ≡ drop l._done (stack l.tops l.ops);
}
