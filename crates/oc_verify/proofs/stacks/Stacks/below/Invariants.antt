use Rattle.std.proofs.Common.{◌≡◌, ◌≤◌, length, drop}
use Rattle.oc_verify.specs.Told.{kinds}
use Rattle.oc_verify.proofs.stacks.Stacks.below.Given as goal

abbrev pub invariant-loop-done : goal.invariant-loop-done
invariant-loop-done l = record {
  rest : l.rest ≤ length l.self;
  below : kinds l.self l.rest ≡ drop l._done (kinds l.self l.ops);
  deep : l._done ≤ length (kinds l.self l.ops);
  other : l.beside ≤ length l.self;
  along : kinds l.self l.beside ≡ drop l._done (kinds l.self l.last.1);
}
