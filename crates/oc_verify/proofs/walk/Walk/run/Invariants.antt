use Rattle.std.proofs.Common.{◌*◌, ◌+◌, length}
use Rattle.oc_verify.specs.Tables.{KeepsOthers, blanks}
use Rattle.oc_verify.specs.Walks.{IsWalkOf, table_marks}
use Rattle.oc_verify.proofs.walk.Walk.run.Given as goal

abbrev pub decreases-loop-at : goal.decreases-loop-at
decreases-loop-at l = 2 * blanks l.table.cells.items + length l.todo.items

abbrev pub invariant-loop-at : goal.invariant-loop-at
invariant-loop-at l = record {
  walk : IsWalkOf l.self l.table l.todo.items;
  others : KeepsOthers l.self.image l.self.function (table_marks l.initial.table) (table_marks l.table);
}
