use Rattle.std.proofs.Common.{◌≡◌, ◌+◌, drop}
use Rattle.oc_tree.specs.View.{block_view, stmts_view}
use Rattle.oc_tree.specs.Nodes.{block_nodes, stmts_nodes}
use Rattle.oc_tree.proofs.nodes.+statement_nodes.Given as goal

abbrev pub invariant-block_nodes-loop-statement : goal.invariant-block_nodes-loop-statement
invariant-block_nodes-loop-statement l =
    l.nodes + stmts_nodes (stmts_view (drop l.statement-index l.statement-items)) ≡ block_nodes (block_view l.block)
