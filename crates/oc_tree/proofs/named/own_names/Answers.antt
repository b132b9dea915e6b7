use Rattle.std.proofs.Common.{ap, sym, ◌++◌, ◌∙◌}
use Rattle.std.proofs.lemmas.Result.{on_ok_weaker}
use Rattle.oc_tree.specs.Names.{names_seen}
use Rattle.oc_tree.specs.View.{kind_view}
use Rattle.oc_tree.proofs.PartLaws.{names_of_own}
use Rattle.oc_tree.proofs.named.own_names.Goals as goal

pub returns : goal.returns
returns c =
    let old = names_seen c.args.names.now.items in
    on_ok_weaker c.add_kind.result (λ h. h ∙ ap (λ l. old ++ l) (sym (names_of_own (kind_view c.args.kind.now)))) c.add_kind.ensures
