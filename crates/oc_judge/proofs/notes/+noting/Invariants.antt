use Rattle.std.proofs.Common.{◌≡◌, drop}
use Rattle.oc_tree.specs.View.{block_view, stmts_view}
use Rattle.oc_judge.specs.Notes.{block_note, stmts_note}
use Rattle.oc_judge.proofs.notes.+noting.Given as goal

abbrev pub invariant-block_note-loop-statement : goal.invariant-block_note-loop-statement
invariant-block_note-loop-statement l = stmts_note l.n (stmts_view (drop l.statement-index l.statement-items)) ≡ block_note l.n (block_view l.block)
