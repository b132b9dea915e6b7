use Rattle.std.proofs.Common.{◌≡◌, ℕ, ◌-◌, None, vec_len}
use Rattle.std.proofs.Math.ListN.{get_or}
use Rattle.oc_region.proofs.groups.grow.Given as goal

abbrev pub invariant-loop-table : goal.invariant-loop-table
invariant-loop-table l = (s : ℕ) → get_or l.table.items s None ≡ get_or l.initial.table.items s None

abbrev pub decreases-loop-table : goal.decreases-loop-table
decreases-loop-table l = l.len - vec_len l.table
