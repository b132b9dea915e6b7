use Rattle.std.proofs.Common.{◌≡◌, ◌-◌, ◌∙◌, ap, sym, suc, length, arith}
use Rattle.oc_tree.specs.View.{stmt_view}
use Rattle.oc_tree.specs.declared.tree.Stmt.{Stmt}
use Rattle.oc_tree.specs.Rules.{is_return}
use Rattle.oc_types.proofs.Ends.{returns_at}
use Rattle.oc_types.proofs.heads.last_returns.Goals as goal

pub returns : goal.returns
returns c =
    let xs = c.args.statements.now in
    let last : Stmt = c.index-statements-count.result in
    let n : length xs ≡ suc (length xs - 1) = omega (arith, c.if-count-eq0.false) in
    c.is_return.ensures
    ∙ ap (λ s. is_return (stmt_view s)) c.index-statements-count.is
    ∙ sym (returns_at (length xs - 1) xs last n)
