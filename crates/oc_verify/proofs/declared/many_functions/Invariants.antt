use Rattle.std.proofs.Common.{◌-◌}
use Rattle.oc_verify.specs.Reading.{function_at}
use Rattle.oc_verify.proofs.Many.{IsPart}
use Rattle.oc_verify.proofs.declared.many_functions.Given as goal

abbrev pub invariant-loop-done : goal.invariant-loop-done
invariant-loop-done l = IsPart function_at l.count l.initial.seen l.initial.reader l.functions.items (l.count - l._done) l.seen l.reader
