use Rattle.std.proofs.Common.{◌≡◌, take}
use Rattle.oc_power.proofs.trace.Trace.to_vec.Given as goal

abbrev pub invariant-loop-at : goal.invariant-loop-at
invariant-loop-at l = l.periods.items ≡ take l.at l.self
