use Rattle.std.proofs.Common.{ap, ◌∙◌, ◌++◌, sym, map, []}
use Rattle.oc_tree.specs.View.{block_view, function_view}
use Rattle.oc_tree.specs.Places.{param_variables}
use Rattle.oc_effects.specs.View.{effect_view}
use Rattle.oc_effects.specs.Walk.{block_effects}
use Rattle.oc_effects.proofs.WalkLaws.{function_agrees}
use Rattle.oc_effects.proofs.effects.add_function.Goals as goal

pub returns : goal.returns
returns c =
    let p = c.args.known.now in
    let body = block_view c.args.function.now.body in
    let around = c.as_slice-2.ensures.value ∙ c.new-around.ensures.items in
    let scope = c.in_ok-scope.ensures ∙ ap (param_variables 0) c.as_slice.ensures.value in
    c.in_ok-walk_block.ensures.effects ∙ ap (λ es. map effect_view c.args.effects.now.items ++ es)
    (ap (λ a. block_effects p a c.in_ok-scope.scope body) around ∙ ap (λ vs. block_effects p [] vs body) scope ∙ sym (function_agrees p (function_view c.args.function.now)))
