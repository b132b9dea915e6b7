use Rattle.std.proofs.Common.{◌≡◌, ◌+◌, drop}
use Rattle.oc_tree.specs.View.{stmts_view}
use Rattle.oc_meaning.specs.Blocks.{or_first, stmts_home, stmts_notes}
use Rattle.oc_meaning.proofs.homes.+homes.Given as goal

-- What was met, with what is left, is the whole.
abbrev pub invariant-block_home-loop-statement : goal.invariant-block_home-loop-statement
invariant-block_home-loop-statement l = record {
  notes : l.inner.notes + stmts_notes l.id (stmts_view (drop l.statement-index l.statement-items)) ≡ stmts_notes l.id (stmts_view l.statement-items);
  block : or_first l.inner.block (stmts_home l.id l.notes (stmts_view (drop l.statement-index l.statement-items))) ≡ stmts_home l.id l.notes (stmts_view l.statement-items);
}
