use Rattle.std.proofs.Common.{◌≡◌, ◌-◌, ℕ, suc, false, length}
use Rattle.std.proofs.Math.ListN.{get_or}
use Rattle.oc_budget.proofs.tables.reach.Given as goal

abbrev pub invariant-loop-table : goal.invariant-loop-table
invariant-loop-table l = (n : ℕ) → get_or l.table.items n false ≡ get_or l.initial.table.items n false

abbrev pub decreases-loop-table : goal.decreases-loop-table
decreases-loop-table l = suc l.place - length l.table.items
