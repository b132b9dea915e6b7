use Rattle.oc_flow.specs.Known.{cells_of, JoinedTo}
use Rattle.oc_flow.proofs.table.join_each.Given as goal

abbrev pub invariant-loop-i : goal.invariant-loop-i
invariant-loop-i l = JoinedTo l.i l.number l.other (cells_of l.fn.rows.items) (cells_of l.rows.items)
