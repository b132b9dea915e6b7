use Rattle.std.proofs.Common.{ap, sym, ◌++◌, ◌∙◌}
use Rattle.std.proofs.lemmas.Result.{on_ok_weaker}
use Rattle.oc_tree.specs.Names.{names_seen}
use Rattle.oc_tree.specs.View.{expr_view}
use Rattle.oc_tree.proofs.PartLaws.{names_of_expr}
use Rattle.oc_tree.proofs.named.expr_names.Goals as goal

pub returns : goal.returns
returns c =
    let old = names_seen c.args.names.now.items in
    on_ok_weaker c.add_expr.result (λ h. h ∙ ap (λ l. old ++ l) (sym (names_of_expr (expr_view c.args.expr.now)))) c.add_expr.ensures
