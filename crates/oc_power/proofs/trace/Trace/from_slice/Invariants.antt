use Rattle.std.proofs.Common.{◌≡◌, ◌++◌, drop}
use Rattle.oc_power.proofs.trace.Trace.from_slice.Given as goal

abbrev pub invariant-loop-period : goal.invariant-loop-period
invariant-loop-period l = l.trace ++ drop l.period-index l.periods ≡ l.periods
