use Rattle.std.proofs.Common.{sym, subst, ◌<◌, ◌^◌, length, ℕ}
use Rattle.std.proofs.lemmas.List.{get_or-map, length-map}
use Rattle.oc_tree.specs.Tree.{TFunction}
use Rattle.oc_tree.specs.View.{function_view}
use Rattle.oc_tree.specs.declared.tree.Function.{Function}
use Rattle.oc_effects.proofs.effects.all_effects.Goals as goal

pub add_function-requires : goal.add_function-requires
add_function-requires c =
    let d = c.function-item.result in
    let i = c.loop-function.function-index in
    let within = subst (λ (n : ℕ). i < n) (sym (length-map c.args.functions.now function_view)) c.loop-function-test.true in
    let few = subst (λ (f : TFunction). length f.params < 2 ^ 32) (get_or-map function_view c.args.functions.now i d (function_view d) c.loop-function-test.true)
    (c.requires i (function_view d) within) in
    subst (λ (f : Function). length f.params.items < 2 ^ 32) (sym c.function-item.is) few
