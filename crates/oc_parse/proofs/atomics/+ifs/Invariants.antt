use Rattle.std.proofs.Common.{◌≡◌, ◌+◌, ◌++◌, ◌<◌, ◌^◌, drop}
use Rattle.oc_tree.specs.View.{block_view, stmts_view}
use Rattle.oc_tree.specs.Expansion.{block_size, stmts_size}
use Rattle.oc_tree.specs.Nodes.{stmts_nodes}
use Rattle.oc_parse.specs.Collected.{block_ifs_at, stmts_ifs_at}
use Rattle.oc_parse.proofs.atomics.+ifs.Given as goal

abbrev pub invariant-block_ifs-loop-statement : goal.invariant-block_ifs-loop-statement
invariant-block_ifs-loop-statement l = record {
  ifs : l.ifs.items ++ stmts_ifs_at l.next (stmts_view (drop l.statement-index l.statement-items)) ≡ l.initial.ifs.items ++ block_ifs_at l.first (block_view l.block);
  next : l.next + stmts_size (stmts_view (drop l.statement-index l.statement-items)) ≡ l.first + block_size (block_view l.block);
  nodes : stmts_nodes (stmts_view (drop l.statement-index l.statement-items)) < 2 ^ 32;
}
