use Rattle.std.proofs.Common.{length}
use Rattle.oc_verify.specs.Room.{AreBounded, bounded_by}
use Rattle.oc_verify.specs.Walks.{table_marks}
use Rattle.oc_verify.proofs.room.check_room.Given as goal

abbrev pub invariant-loop-rank : goal.invariant-loop-rank
invariant-loop-rank l = AreBounded l.facts (table_marks l.table) (bounded_by (length l.facts.functions) l.ranks l.rank 0) l.bounds.items
