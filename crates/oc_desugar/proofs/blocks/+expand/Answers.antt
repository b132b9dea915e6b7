use Rattle.std.proofs.Common.{arith, ◌≡◌, drop, ◌+◌, ◌∷◌, ◌≤◌, length}
use Rattle.std.proofs.lemmas.Grind.{common_steps}
use Rattle.oc_tree.specs.View.{kind_view, stmt_view}
use Rattle.oc_desugar.proofs.Joins.{stmts_step, stmts_end, stmts_pulls_step, stmts_size_step}
use Rattle.oc_tree.specs.Tree.{TKind, TBlock, TStmt, stmt}
use Rattle.oc_tree.specs.View.{kind_step, block_step, stmt_step}
use Rattle.oc_tree.specs.declared.tree.Stmt.{fold_out-Stmt}
use Rattle.oc_desugar.proofs.blocks.+expand.Goals as goal

pub expand_stmts-loop-statement-preserved : goal.expand_stmts-loop-statement-preserved
expand_stmts-loop-statement-preserved t c =
    let i = c.loop-statement.statement-index in
    let l = c.args.statements.now in
    let x = c.statement-item.result in
    let item = c.statement-item.is in
    let e : drop i l ≡ c.statement-item.result ∷ drop (i + 1) l = grind (arith, common_steps) in
    let v : stmt_view x ≡ stmt x.id x.line (kind_view x.kind) = fold_out-Stmt TKind TBlock TStmt kind_step block_step stmt_step x in
    let f = stmts_pulls_step x _ i l v e in
    let g = stmts_size_step x _ i l v e in
    let a = c.in_ok-expand_stmt.ensures.pull in
    let b = c.in_ok-expand_stmt.ensures.stmt in
    record {
      expanded = stmts_step c.loop-statement.out.items _ x _ _ _ _ _ i l _ v c.in_ok-expand_stmt.ensures.expanded c.in_ok-expand_stmt.ensures.pull c.in_ok-expand_stmt.ensures.stmt
          e c.loop-statement.invariant.expanded;
      pulls = omega (arith, f, a, c.loop-statement.invariant.pulls);
      sizes = omega (arith, g, b, c.loop-statement.invariant.sizes);
      pull = omega (arith, f, a, c.loop-statement.invariant.pull);
      size = omega (arith, g, b, c.loop-statement.invariant.size);
    }

pub expand_stmts-returns-clause-expanded : goal.expand_stmts-returns-clause-expanded
expand_stmts-returns-clause-expanded t c =
    let h : length c.args.statements.now ≤ c.loop-statement.statement-index = omega arith in
    stmts_end c.loop-statement.out.items _ _ c.loop-statement.statement-index c.args.statements.now _ h c.loop-statement.invariant.expanded
