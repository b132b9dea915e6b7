use Rattle.std.proofs.Common.{ap, sym, ◌∙◌}
use Rattle.std.specs.List.{list_any}
use Rattle.oc_tree.specs.View.{expr_view}
use Rattle.oc_tree.proofs.PartLaws.{names_of_expr}
use Rattle.oc_meaning.specs.Uses.{is_fresh}
use Rattle.oc_judge.proofs.naming.expression_is_use.Goals as goal

pub returns : goal.returns
returns c = c.expr_has.ensures ∙ ap (list_any (is_fresh c.args.scope.now)) (sym (names_of_expr (expr_view c.args.expr.now)))
