use Rattle.std.proofs.Common.{◌≡◌, ◌+◌, ◌++◌, drop}
use Rattle.oc_tree.specs.View.{block_view, stmts_view}
use Rattle.oc_tree.specs.Expansion.{block_groups, block_size, stmts_groups, stmts_size}
use Rattle.oc_desugar.proofs.groups.+groups.Given as goal

abbrev pub invariant-block_groups-loop-statement : goal.invariant-block_groups-loop-statement
invariant-block_groups-loop-statement l = record {
  groups : l.groups.items ++ stmts_groups l.next (stmts_view (drop l.statement-index l.statement-items)) ≡ l.initial.groups.items ++ block_groups l.first (block_view l.block);
  next : l.next + stmts_size (stmts_view (drop l.statement-index l.statement-items)) ≡ l.first + block_size (block_view l.block);
}
