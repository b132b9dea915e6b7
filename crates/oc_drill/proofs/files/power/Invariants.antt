use Rattle.std.proofs.Common.{◌≡◌, ◌++◌, ◌+◌, ◌*◌, ◌-◌}
use Rattle.oc_drill.specs.Drill.{drill_power, power_row, rows}
use Rattle.oc_drill.proofs.files.power.Given as goal

abbrev pub invariant-loop-place : goal.invariant-loop-place
invariant-loop-place l = l.text.items ++ rows power_row l.place (24 * l.turns + 8 - l.place) ≡ drill_power l.turns
