use Rattle.std.proofs.Common.{◌≡◌, Bool, ap, sym, ◌∙◌}
use Rattle.std.specs.Prelude.{◌==◌, count_by}
use Rattle.std.specs.List.{flat_map, list_all}
use Rattle.std.specs.Str.{bytes_eq}
use Rattle.oc_tree.specs.Calls.{args_of_call}
use Rattle.oc_tree.specs.Mentions.{call_mentions}
use Rattle.oc_tree.specs.Named.{part_names}
use Rattle.oc_tree.specs.Names.{Text, names_seen}
use Rattle.oc_tree.specs.Parts.{call_parts}
use Rattle.oc_tree.specs.Rules.{all_lent, callee_params}
use Rattle.oc_tree.specs.Tree.{TArg, TCall, TExpr}
use Rattle.oc_tree.specs.View.{args_view, arg_step, call_step, call_view, expr_step, program_view}
use Rattle.oc_tree.specs.declared.tree.Call.{fold_out-Call}
use Rattle.oc_types.proofs.calls.lends_alone.Goals as goal

pub returns : goal.returns
returns c =
    let p = program_view c.args.top.now in
    let called = call_view c.args.call.now in
    let test : Text → Bool = λ x. call_mentions x called == 1 in
    let counted : c.in_ok-times.times ≡ flat_map part_names (call_parts called) = c.in_ok-times.ensures ∙ c.in_ok-names.ensures in
    let args : args_view c.as_slice.result.now ≡ args_of_call called =
    ap args_view c.as_slice.ensures.value ∙ sym (ap args_of_call (fold_out-Call TArg TExpr TCall arg_step expr_step call_step c.args.call.now)) in
    c.are_single.ensures
    ∙ ap (λ ns. list_all (λ x. count_by (bytes_eq x) ns == 1) (names_seen c.as_slice-2.result.now)) counted
    ∙ ap (λ l. list_all test (names_seen l)) c.as_slice-2.ensures.value
    ∙ sym (c.in_ok-lent.ensures test)
    ∙ ap (λ qs. all_lent test qs (args_view c.as_slice.result.now)) c.params.ensures
    ∙ ap (all_lent test (callee_params p called)) args
