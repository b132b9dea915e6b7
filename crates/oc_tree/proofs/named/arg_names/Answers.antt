use Rattle.std.proofs.Common.{ap, sym, ◌++◌, ◌∙◌}
use Rattle.std.proofs.lemmas.Result.{on_ok_weaker}
use Rattle.oc_tree.specs.Names.{names_seen}
use Rattle.oc_tree.specs.View.{arg_view}
use Rattle.oc_tree.proofs.PartLaws.{names_of_arg}
use Rattle.oc_tree.proofs.named.arg_names.Goals as goal

pub returns : goal.returns
returns c =
    let old = names_seen c.args.names.now.items in
    on_ok_weaker c.add_arg.result (λ h. h ∙ ap (λ l. old ++ l) (sym (names_of_arg (arg_view c.args.arg.now)))) c.add_arg.ensures
