use Rattle.std.proofs.Common.{ap, sym, ◌∙◌}
use Rattle.std.specs.List.{list_any}
use Rattle.oc_tree.specs.View.{kind_view}
use Rattle.oc_tree.proofs.PartLaws.{names_of_own}
use Rattle.oc_meaning.specs.Uses.{is_fresh}
use Rattle.oc_judge.proofs.naming.is_use.Goals as goal

pub returns : goal.returns
returns c = c.kind_has.ensures ∙ ap (list_any (is_fresh c.args.scope.now)) (sym (names_of_own (kind_view c.args.kind.now)))
