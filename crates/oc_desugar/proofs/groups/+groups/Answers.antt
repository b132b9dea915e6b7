use Rattle.std.proofs.Common.{arith, ◌≡◌, drop, ◌+◌, ◌++◌, ◌∷◌, [], ap, sym, ◌∙◌}
use Rattle.std.proofs.lemmas.Grind.{common_steps}
use Rattle.oc_tree.specs.Tree.{TKind, TBlock, TStmt, stmt, more}
use Rattle.oc_tree.specs.View.{kind_view, stmt_view, stmts_view, kind_step, block_step, stmt_step}
use Rattle.oc_tree.specs.declared.tree.Stmt.{fold_out-Stmt}
use Rattle.oc_tree.specs.Pulls.{own_pulls}
use Rattle.oc_tree.specs.Expansion.{inner_groups, inner_size, stmts_groups, stmts_size}
use Rattle.oc_desugar.proofs.Joins.{groups_more}
use Rattle.oc_desugar.proofs.groups.+groups.Goals as goal

pub block_groups-loop-statement-preserved : goal.block_groups-loop-statement-preserved
block_groups-loop-statement-preserved t c =
    let i = c.loop-statement.statement-index in
    let l = c.deref-statement-items.result.now in
    let x = c.statement-item.result in
    let item = c.statement-item.is in
    let e : drop i l ≡ c.statement-item.result ∷ drop (i + 1) l = grind (arith, common_steps) in
    let v : stmt_view x ≡ stmt x.id x.line (kind_view x.kind) = fold_out-Stmt TKind TBlock TStmt kind_step block_step stmt_step x in
    let k : TKind = kind_view x.kind in
    let r = stmts_view (drop (i + 1) l) in
    let s : stmts_view (drop i l) ≡ more (stmt x.id x.line k) r = ap stmts_view e ∙ ap (λ y. more y r) v in
    let front = c.loop-statement.groups.items in
    let next = c.loop-statement.next in
    let own : c.own_pulls.result ≡ own_pulls k = c.own_pulls.ensures in
    let to : c.in_ok-next.next ≡ next + own_pulls k + 1 + inner_size k = omega (arith, c.in_ok-next.ensures.next, own) in
    let grown : c.inner_groups.new.groups.items ≡ (front ++ (next, next + own_pulls k) ∷ []) ++ inner_groups (next + own_pulls k + 1) k =
    c.in_ok-next.ensures.groups
    ∙ ap (λ p. p ++ inner_groups (next + c.own_pulls.result + 1) k) c.in_ok-push.ensures.items
    ∙ ap (λ o. (front ++ (next, next + o) ∷ []) ++ inner_groups (next + o + 1) k) own in
    let was = ap (λ y. front ++ stmts_groups next y) s in
    let size : stmts_size (stmts_view (drop i l)) ≡ own_pulls k + 1 + inner_size k + stmts_size r = ap stmts_size s in
    record {
      groups = groups_more front c.inner_groups.new.groups.items next c.in_ok-next.next x.id x.line k r _ grown to (sym was ∙ c.loop-statement.invariant.groups);
      next = omega (arith, to, size, c.loop-statement.invariant.next);
    }
