use Rattle.std.proofs.Common.{◌≡◌, ◌<◌, ◌^◌, ◌+◌, length}
use Rattle.oc_power.specs.Causes.{why_rows}
use Rattle.oc_power.specs.Power.{power_rows}
use Rattle.oc_power.specs.Total.{total}
use Rattle.oc_power.proofs.Before.{all_with}
use Rattle.oc_power.proofs.power.read_periods.Given as goal

abbrev pub invariant-loop-periods : goal.invariant-loop-periods
invariant-loop-periods l = record {
  small : l.sum < 2 ^ 63;
  added : l.sum ≡ total l.periods;
  same : all_with l.periods (power_rows (l.rows.number + 1) l.sum l.rows.left) ≡ power_rows (l.fn.rows.number + 1) 0 l.fn.rows.left;
  why : why_rows l.sum l.rows.left ≡ why_rows 0 l.fn.rows.left;
}

abbrev pub decreases-loop-periods : goal.decreases-loop-periods
decreases-loop-periods l = length l.rows.left
