use Rattle.std.proofs.Common.{◌≡◌, length}
use Rattle.oc_steps.specs.Ages.{one_more}
use Rattle.oc_judge.proofs.executed.grow.Given as goal

abbrev pub invariant-loop-entry : goal.invariant-loop-entry
invariant-loop-entry l = record {
  length : length l.counts.items ≡ l._entry;
  same : one_more l.block l.counts.items ≡ one_more l.block l.initial.counts.items;
}
