use Rattle.oc_verify.specs.Walks.{table_marks}
use Rattle.oc_verify.proofs.MostLaws.{IsMostBefore}
use Rattle.oc_verify.proofs.room.words_needed.Given as goal

abbrev pub invariant-loop-at : goal.invariant-loop-at
invariant-loop-at l = IsMostBefore l.facts (table_marks l.table) l.bounds l.function l.at l.most
