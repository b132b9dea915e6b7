use Rattle.std.proofs.Common.{◌-◌}
use Rattle.oc_verify.specs.Reading.{target_at}
use Rattle.oc_verify.proofs.Many.{IsMany}
use Rattle.oc_verify.proofs.lists.targets.Given as goal

abbrev pub invariant-loop-done : goal.invariant-loop-done
invariant-loop-done l = IsMany target_at l.count l.initial.reader l.targets.items (l.count - l._done) l.reader
