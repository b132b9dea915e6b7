use Rattle.std.proofs.Common.{◌≡◌, ◌-◌, ◌++◌}
use Rattle.oc_verify.specs.Reading.{bare_at}
use Rattle.oc_verify.proofs.Many.{IsPart}
use Rattle.oc_verify.proofs.declared.many_names.Given as goal

abbrev pub invariant-loop-done : goal.invariant-loop-done
invariant-loop-done l = record { part : IsPart bare_at l.count l.initial.seen l.initial.reader l.names.items (l.count - l._done) l.seen l.reader; seen : l.seen ≡ l.initial.seen ++ l.names.items }
