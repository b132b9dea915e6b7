use Rattle.std.proofs.Common.{◌≡◌, replicate, false}
use Rattle.oc_flow.specs.Known.{cells_of}
use Rattle.oc_flow.proofs.table.no_rows.Given as goal

abbrev pub invariant-loop-i : goal.invariant-loop-i
invariant-loop-i l = cells_of l.rows.items ≡ replicate l._i (replicate l.count false)
