use Rattle.std.proofs.Common.{◌≡◌, None}
use Rattle.std.specs.Prelude.{replicate}
use Rattle.oc_verify.specs.Tables.{passed_seen}
use Rattle.oc_verify.proofs.kinds.none_passed.Given as goal

abbrev pub invariant-loop-function : goal.invariant-loop-function
invariant-loop-function l = passed_seen l.passed.items ≡ replicate l._function None
