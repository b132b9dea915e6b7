use Rattle.std.proofs.Common.{sym, ap, ◌∙◌, List, [], map, get_or}
use Rattle.std.proofs.lemmas.Bool.{ltb-true}
use Rattle.oc_tree.specs.View.{function_view}
use Rattle.oc_tree.specs.declared.tree.Param.{Param}
use Rattle.oc_command.proofs.Naming.{viewed_at}
use Rattle.oc_command.proofs.names.param_name.Goals as goal

pub returns-in-Some : goal.returns-in-Some
returns-in-Some c =
    let found = rw c.deref.ensures.value at c.in-Some.ensures.lookup in
    c.name_in.ensures ∙ ap (λ (ps : List Param). get_or (map (λ q. q.name) ps) c.args.index [])
    (c.deref-in-Some.ensures.value ∙ viewed_at function_view (λ g. g.params) c.args.program.now.functions.items c.args.function c.in-Some.function.now [] (ltb-true _ _ (sym found.0)) found.1)
