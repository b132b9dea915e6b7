use Rattle.std.proofs.Common.{arith, rules, ◌≡◌, ◌+◌, ◌∷◌, ◌++◌, append-nil, drop, sym, ap, ◌∙◌}
use Rattle.std.proofs.lemmas.List.{drop_all}
use Rattle.std.proofs.lemmas.Grind.{common_steps}
use Rattle.oc_tree.specs.Tree.{TKind, TBlock, TStmt, stmt, more}
use Rattle.oc_tree.specs.View.{kind_view, stmt_view, stmts_view, kind_step, block_step, stmt_step}
use Rattle.oc_tree.specs.declared.tree.Block as blocks
use Rattle.oc_tree.specs.declared.tree.Stmt.{fold_out-Stmt}
use Rattle.oc_tree.specs.declared.tree.Stmt as statements
use Rattle.oc_tree.specs.Pulls.{own_pulls}
use Rattle.oc_tree.specs.Expansion.{stmts_size}
use Rattle.oc_tree.specs.Nodes.{stmts_nodes}
use Rattle.oc_parse.specs.Collected.{stmts_ifs_at}
use Rattle.oc_parse.proofs.Expanded.{own_fits, ifs_more}
use Rattle.oc_parse.proofs.atomics.+ifs.Goals as goal

pub block_ifs-own_pulls-requires : goal.block_ifs-own_pulls-requires
block_ifs-own_pulls-requires t c =
    let i = c.loop-statement.statement-index in
    let l = c.deref-statement-items.result.now in
    let x = c.statement-item.result in
    let item = c.statement-item.is in
    let e : drop i l ≡ x ∷ drop (i + 1) l = grind (arith, common_steps) in
    let v : stmt_view x ≡ stmt x.id x.line (kind_view x.kind) = fold_out-Stmt TKind TBlock TStmt kind_step block_step stmt_step x in
    let n = ap stmts_nodes (ap stmts_view e ∙ ap (λ s. more s (stmts_view (drop (i + 1) l))) v) in
    let h = own_fits (kind_view x.kind) in
    let fit = c.loop-statement.invariant.nodes in
    omega arith

pub block_ifs-kind_ifs-requires : goal.block_ifs-kind_ifs-requires
block_ifs-kind_ifs-requires t c =
    let i = c.loop-statement.statement-index in
    let l = c.deref-statement-items.result.now in
    let x = c.statement-item.result in
    let item = c.statement-item.is in
    let e : drop i l ≡ x ∷ drop (i + 1) l = grind (arith, common_steps) in
    let v : stmt_view x ≡ stmt x.id x.line (kind_view x.kind) = fold_out-Stmt TKind TBlock TStmt kind_step block_step stmt_step x in
    let n = ap stmts_nodes (ap stmts_view e ∙ ap (λ s. more s (stmts_view (drop (i + 1) l))) v) in
    (search (rules, blocks.the_lemmas, statements.the_lemmas), omega (arith, n, c.loop-statement.invariant.nodes))

pub block_ifs-loop-statement-preserved : goal.block_ifs-loop-statement-preserved
block_ifs-loop-statement-preserved t c =
    let i = c.loop-statement.statement-index in
    let l = c.deref-statement-items.result.now in
    let x = c.statement-item.result in
    let item = c.statement-item.is in
    let e : drop i l ≡ x ∷ drop (i + 1) l = grind (arith, common_steps) in
    let v : stmt_view x ≡ stmt x.id x.line (kind_view x.kind) = fold_out-Stmt TKind TBlock TStmt kind_step block_step stmt_step x in
    let rest = stmts_view (drop (i + 1) l) in
    let w : stmts_view (drop i l) ≡ more (stmt x.id x.line (kind_view x.kind)) rest = ap stmts_view e ∙ ap (λ s. more s rest) v in
    let n = ap stmts_nodes w in
    let s = ap stmts_size w in
    let number : c.in_ok-number.number ≡ c.loop-statement.next + own_pulls (kind_view x.kind) = search rules in
    let inside = c.in_ok-inside.ensures in
    let to = c.in_ok-next.ensures.next in
    let fit = c.loop-statement.invariant.nodes in
    let sizes = c.loop-statement.invariant.next in
    record {
      ifs = ifs_more c.loop-statement.ifs.items c.add_if.new.ifs.items c.kind_ifs.new.ifs.items c.loop-statement.next c.in_ok-number.number c.in_ok-inside.inside c.in_ok-next.next
          x.id x.line (kind_view x.kind) rest _
          number c.in_ok-add_if.ensures inside c.in_ok-next.ensures.ifs to (ap (λ r. c.loop-statement.ifs.items ++ stmts_ifs_at c.loop-statement.next r) (sym w) ∙ c.loop-statement.invariant.ifs);
      next = omega (arith, n, s, number, inside, to, sizes);
      nodes = omega (arith, n, fit);
    }

pub block_ifs-returns-clause-ifs : goal.block_ifs-returns-clause-ifs
block_ifs-returns-clause-ifs t c =
    let ifs = c.loop-statement.ifs.items in
    sym (append-nil ifs)
    ∙ ap (λ ss. ifs ++ stmts_ifs_at c.loop-statement.next (stmts_view ss))
    (sym (drop_all c.loop-statement.statement-index c.deref-statement-items.result.now c.loop-statement-test.false))
    ∙ c.loop-statement.invariant.ifs

pub block_ifs-returns-clause-next : goal.block_ifs-returns-clause-next
block_ifs-returns-clause-next t c =
    let z = ap (λ ss. stmts_size (stmts_view ss)) (drop_all c.loop-statement.statement-index c.deref-statement-items.result.now c.loop-statement-test.false) in
    omega (arith, z, c.loop-statement.invariant.next)
