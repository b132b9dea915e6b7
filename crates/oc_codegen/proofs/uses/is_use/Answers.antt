use Rattle.std.proofs.Common.{ap, sym, ◌∙◌}
use Rattle.std.specs.List.{list_any}
use Rattle.oc_tree.specs.View.{kind_view}
use Rattle.oc_tree.specs.Named.{own_names}
use Rattle.oc_tree.proofs.PartLaws.{names_of_own}
use Rattle.oc_code.specs.Scope.{is_fresh_in}
use Rattle.oc_codegen.proofs.LastPlaces.{none_of_any}
use Rattle.oc_codegen.proofs.uses.is_use.Goals as goal

pub returns : goal.returns
returns c = c.kind_has.ensures ∙ ap (list_any (is_fresh_in c.args.scope.now)) (sym (names_of_own (kind_view c.args.kind.now)))

pub returns-then-not-has_fresh : goal.returns-then-not-has_fresh
returns-then-not-has_fresh c = sym (none_of_any (is_fresh_in c.args.scope.now) (own_names (kind_view c.args.kind.now)) (c.has_fresh.ensures c.if-not-has_fresh.true))
