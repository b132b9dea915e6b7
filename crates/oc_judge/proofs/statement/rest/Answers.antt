use Rattle.std.proofs.Common.{rules, ◌≡◌, sym, subst, IfOk}
use Rattle.oc_tree.specs.Tree.{more}
use Rattle.oc_tree.specs.View.{stmt_view, stmts_view}
use Rattle.oc_judge.specs.Frames.{frames_view, inside_view}
use Rattle.oc_judge.specs.Going.{rest_here}
use Rattle.oc_judge.specs.Leading.{LeadsTo}
use Rattle.oc_judge.proofs.statement.rest.Goals as goal

pub returns-in-Some : goal.returns-in-Some
returns-in-Some c =
    let r = c.args.run.now in
    let viewed : stmts_view c.args.statements.now ≡ more (stmt_view c.in-Some.first.now) (stmts_view c.in-Some.others.now) = search rules in
    subst
    (λ ss. IfOk c.begin_statement.result
    (λ g. LeadsTo r (rest_here r (inside_view c.args.inside) c.args.scope.value ss (frames_view c.args.frames.now.items) c.args.store.now) g (frames_view c.begin_statement.new.frames.items)
    c.begin_statement.new.store))
    (sym viewed) c.begin_statement.ensures
