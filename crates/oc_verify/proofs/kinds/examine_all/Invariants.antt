use Rattle.std.proofs.Common.{length}
use Rattle.oc_verify.specs.Tables.{IsDone, done_by, passed_seen}
use Rattle.oc_verify.specs.Walks.{IsTable, table_marks}
use Rattle.oc_verify.proofs.kinds.examine_all.Given as goal

abbrev pub invariant-loop-above : goal.invariant-loop-above
invariant-loop-above l = record {
  table : IsTable l.facts l.table;
  done : IsDone l.facts (done_by (length l.facts.functions) l.ranks l.above 0) (table_marks l.table) (passed_seen l.passed.items);
}

abbrev pub invariant-loop-function : goal.invariant-loop-function
invariant-loop-function l = record {
  table : IsTable l.facts l.table;
  done : IsDone l.facts (done_by (length l.facts.functions) l.ranks l.above l.function) (table_marks l.table) (passed_seen l.passed.items);
}
