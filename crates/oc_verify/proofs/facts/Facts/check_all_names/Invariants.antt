use Rattle.std.proofs.Common.{◌<◌, ℕ}
use Rattle.oc_verify.specs.Facts.{IsNamed}
use Rattle.oc_verify.proofs.facts.Facts.check_all_names.Given as goal

abbrev pub invariant-loop-function : goal.invariant-loop-function
invariant-loop-function l = (f : ℕ) → f < l.function → IsNamed l.self f
