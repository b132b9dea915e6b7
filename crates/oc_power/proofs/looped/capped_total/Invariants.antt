use Rattle.std.proofs.Common.{◌≡◌, ◌+◌, ◌-◌, ◌^◌, ◌<◌, drop, min}
use Rattle.oc_power.specs.Total.{total}
use Rattle.oc_power.proofs.looped.capped_total.Given as goal

abbrev pub invariant-loop-at : goal.invariant-loop-at
invariant-loop-at l = (l.sum < 2 ^ 64) × (min (l.sum + total (drop l.at l.rows)) (2 ^ 64 - 1) ≡ min (total l.rows) (2 ^ 64 - 1))
