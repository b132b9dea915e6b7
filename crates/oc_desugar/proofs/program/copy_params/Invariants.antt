use Rattle.std.proofs.Common.{◌≡◌, ◌++◌, drop}
use Rattle.oc_desugar.proofs.program.copy_params.Given as goal

abbrev pub invariant-loop-param : goal.invariant-loop-param
invariant-loop-param l = l.copies.items ++ drop l.param-index l.params ≡ l.params
