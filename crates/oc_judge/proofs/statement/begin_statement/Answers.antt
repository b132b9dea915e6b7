use Rattle.std.proofs.Common.{◌≡◌, sym, subst, IfOk}
use Rattle.oc_tree.specs.Tree.{TBlock, TKind, TStmt, more, stmt}
use Rattle.oc_tree.specs.View.{block_step, kind_step, kind_view, stmt_step, stmt_view, stmts_view}
use Rattle.oc_tree.specs.declared.tree.Stmt.{fold_out-Stmt}
use Rattle.oc_judge.specs.Frames.{frames_view, inside_view}
use Rattle.oc_judge.specs.Going.{rest_here}
use Rattle.oc_judge.specs.Leading.{LeadsTo}
use Rattle.oc_judge.proofs.statement.begin_statement.Goals as goal

pub returns-then-not-is_plain : goal.returns-then-not-is_plain
returns-then-not-is_plain c =
    let r = c.args.run.now in
    let x = c.args.first.now in
    let gs = frames_view c.enter_statement.new.frames.items in
    let τ = c.enter_statement.new.store in
    let same : stmt_view x ≡ stmt x.id x.line (kind_view x.kind) = fold_out-Stmt TKind TBlock TStmt kind_step block_step stmt_step x in
    subst (λ s. IfOk c.enter_statement.result (λ g. LeadsTo r (rest_here r (inside_view c.args.inside) c.args.scope.value (more s (stmts_view c.args.rest.now)) (frames_view c.args.frames.now.items) c.args.store.now) g gs τ))
    (sym same) c.enter_statement.ensures

pub returns-then-found : goal.returns-then-found
returns-then-found c =
    let r = c.args.run.now in
    let x = c.args.first.now in
    let gs = frames_view c.use_statement.new.frames.items in
    let τ = c.use_statement.new.store in
    let same : stmt_view x ≡ stmt x.id x.line (kind_view x.kind) = fold_out-Stmt TKind TBlock TStmt kind_step block_step stmt_step x in
    subst (λ s. IfOk c.use_statement.result (λ g. LeadsTo r (rest_here r (inside_view c.args.inside) c.args.scope.value (more s (stmts_view c.args.rest.now)) (frames_view c.args.frames.now.items) c.args.store.now) g gs τ))
    (sym same) c.use_statement.ensures

pub returns : goal.returns
returns c =
    let r = c.args.run.now in
    let x = c.args.first.now in
    let gs = frames_view c.work_statement.new.frames.items in
    let τ = c.work_statement.new.store in
    let same : stmt_view x ≡ stmt x.id x.line (kind_view x.kind) = fold_out-Stmt TKind TBlock TStmt kind_step block_step stmt_step x in
    subst (λ s. IfOk c.work_statement.result (λ g. LeadsTo r (rest_here r (inside_view c.args.inside) c.args.scope.value (more s (stmts_view c.args.rest.now)) (frames_view c.args.frames.now.items) c.args.store.now) g gs τ))
    (sym same) c.work_statement.ensures
