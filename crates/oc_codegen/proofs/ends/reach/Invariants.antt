use Rattle.std.proofs.Common.{◌≡◌, ◌-◌, ℕ, suc, None, length}
use Rattle.std.proofs.Math.ListN.{get_or}
use Rattle.oc_codegen.proofs.ends.reach.Given as goal

abbrev pub invariant-loop-table : goal.invariant-loop-table
invariant-loop-table l = (n : ℕ) → get_or l.table.items n None ≡ get_or l.initial.table.items n None

abbrev pub decreases-loop-table : goal.decreases-loop-table
decreases-loop-table l = suc l.place - length l.table.items
