use Rattle.std.proofs.Common.{◌-◌}
use Rattle.oc_verify.specs.Reading.{placed_at}
use Rattle.oc_verify.proofs.Many.{IsMany}
use Rattle.oc_verify.proofs.lists.instructions.Given as goal

abbrev pub invariant-loop-done : goal.invariant-loop-done
invariant-loop-done l = IsMany placed_at l.count l.initial.reader l.code.items (l.count - l._done) l.reader
