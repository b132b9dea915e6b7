use Rattle.std.proofs.Common.{◌≡◌, ◌+◌, ◌<◌, ◌^◌, drop, map}
use Rattle.oc_tree.specs.View.{stmt_view, stmts_view}
use Rattle.oc_tree.specs.Pulls.{stmts_pulls}
use Rattle.oc_tree.specs.Expansion.{expand_stmts, stmts_size, join_stmts}
use Rattle.oc_desugar.proofs.blocks.+expand.Given as goal

abbrev pub invariant-expand_stmts-loop-statement : goal.invariant-expand_stmts-loop-statement
invariant-expand_stmts-loop-statement l = record {
  expanded : join_stmts (map stmt_view l.out.items) (expand_stmts l.n.pull l.n.stmt (stmts_view (drop l.statement-index l.statements)))
      ≡ expand_stmts l.initial.n.pull l.initial.n.stmt (stmts_view l.statements);
  pulls : l.n.pull + stmts_pulls (stmts_view (drop l.statement-index l.statements)) < 2 ^ 32;
  sizes : l.n.stmt + stmts_size (stmts_view (drop l.statement-index l.statements)) < 2 ^ 32;
  pull : l.n.pull + stmts_pulls (stmts_view (drop l.statement-index l.statements)) ≡ l.initial.n.pull + stmts_pulls (stmts_view l.statements);
  size : l.n.stmt + stmts_size (stmts_view (drop l.statement-index l.statements)) ≡ l.initial.n.stmt + stmts_size (stmts_view l.statements);
}
