use Rattle.oc_flow.specs.Known.{EnteredTo, cells_of}
use Rattle.oc_flow.proofs.table.entered_numbers.Given as goal

abbrev pub invariant-loop-i : goal.invariant-loop-i
invariant-loop-i l = EnteredTo l.i (cells_of l.rows) l.entered.items
