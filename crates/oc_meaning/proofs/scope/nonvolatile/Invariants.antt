use Rattle.std.proofs.Common.{◌≡◌, ◌≤◌, drop, length}
use Rattle.oc_meaning.specs.Run.{nv_env}
use Rattle.oc_meaning.proofs.scope.nonvolatile.Given as goal

abbrev pub invariant-loop-index : goal.invariant-loop-index
invariant-loop-index l = record {
  inside : l.index ≤ length l.names;
  scope : l.scope ≡ nv_env l.index (drop l.index l.names);
}

abbrev pub decreases-loop-index : goal.decreases-loop-index
decreases-loop-index l = l.index
