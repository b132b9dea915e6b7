use Rattle.std.proofs.Common.{◌≤◌, ◌++◌, length, ap, sym, ◌∙◌, append-nil, arith}
use Rattle.std.proofs.lemmas.List.{drop_all}
use Rattle.std.specs.List.{flat_map}
use Rattle.oc_tree.specs.Named.{part_names}
use Rattle.oc_tree.specs.Names.{names_seen}
use Rattle.oc_tree.specs.Parts.{args_parts, call_parts}
use Rattle.oc_tree.specs.Tree.{TArg, TCall, TExpr}
use Rattle.oc_tree.specs.View.{args_view, arg_step, call_step, expr_step}
use Rattle.oc_tree.specs.declared.tree.Call.{fold_out-Call}
use Rattle.oc_types.proofs.calls.call_names.Goals as goal

pub returns : goal.returns
returns c =
    let i = c.loop-arg.arg-index in
    let l = c.deref-arg-items.result.now in
    let names = names_seen c.loop-arg.names.items in
    let h : length l ≤ i = omega arith in
    let none = ap (λ d. names ++ flat_map part_names (args_parts (args_view d))) (drop_all i l h) in
    let view = fold_out-Call TArg TExpr TCall arg_step expr_step call_step c.args.call.now in
    sym (append-nil names)
    ∙ sym none
    ∙ c.loop-arg.invariant
    ∙ ap (λ x. flat_map part_names (args_parts (args_view x))) c.deref-arg-items.ensures.value
    ∙ sym (ap (λ v. flat_map part_names (call_parts v)) view)
