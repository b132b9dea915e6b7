use Rattle.std.proofs.Common.{rules, ◌≡◌, ap, sym, ◌∙◌, w32, to_z, of_z}
use Rattle.oc_tree.specs.Tree.{TKind, TBlock, TStmt, consistent, emit}
use Rattle.oc_tree.specs.View.{expr_view, kind_view, kind_step, block_step, stmt_step}
use Rattle.oc_tree.specs.declared.tree.StmtKind.{fold-roll-StmtKind}
use Rattle.oc_tree.specs.declared.tree.StmtKind.TheOpen.{StmtKind-F}
use Rattle.oc_tree.specs.declared.tree.StmtKind as X
use denote.Hole.Carrier
use Rattle.oc_judge.specs.Frames.{frames_view, inside_view}
use Rattle.oc_judge.specs.Going.{work_here}
use Rattle.oc_judge.proofs.work.work.Goals as goal

pub returns-in_ok-completion-in-Emit : goal.returns-in_ok-completion-in-Emit
unfolding X.roll-StmtKind denote.Hole.Carrier.roll
returns-in_ok-completion-in-Emit c =
    let k = frames_view c.args.frames.now.items in
    let view : kind_view c.args.kind.now ≡ emit c.in-Emit.port (expr_view c.in-Emit.value) =
    ap kind_view c.in-Emit.is ∙ fold-roll-StmtKind TKind TBlock TStmt kind_step block_step stmt_step (StmtKind-F.Emit c.in-Emit.port c.in-Emit.value) in
    c.in_ok-completion-in-Emit.ensures k
    ∙ ap (λ q. work_here c.args.run.now (inside_view c.args.inside) c.args.scope.now.value c.args.n q k c.args.store.now) (sym view)

pub returns-in_ok-completion-in-Consistent : goal.returns-in_ok-completion-in-Consistent
unfolding X.roll-StmtKind denote.Hole.Carrier.roll
returns-in_ok-completion-in-Consistent c =
    let k = frames_view c.args.frames.now.items in
    let id = c.in-Consistent.id in
    let same : to_z w32 (of_z w32 id) ≡ id = search rules in
    let view : kind_view c.args.kind.now ≡ consistent c.in-Consistent.name id =
    ap kind_view c.in-Consistent.is ∙ fold-roll-StmtKind TKind TBlock TStmt kind_step block_step stmt_step (StmtKind-F.Consistent c.in-Consistent.name id) in
    c.in_ok-completion-in-Consistent.ensures k
    ∙ ap (λ z. work_here c.args.run.now (inside_view c.args.inside) c.args.scope.now.value c.args.n (consistent c.in-Consistent.name z) k c.args.store.now) same
    ∙ ap (λ q. work_here c.args.run.now (inside_view c.args.inside) c.args.scope.now.value c.args.n q k c.args.store.now) (sym view)
