use Rattle.std.proofs.Common.{length}
use Rattle.oc_verify.specs.Room.{AreBounded, bounded_by}
use Rattle.oc_verify.specs.Walks.{table_marks}
use Rattle.oc_verify.proofs.room.bound_rank.Given as goal

abbrev pub invariant-loop-function : goal.invariant-loop-function
invariant-loop-function l = AreBounded l.facts (table_marks l.table) (bounded_by (length l.facts.functions) l.ranks l.rank l.function) l.bounds
