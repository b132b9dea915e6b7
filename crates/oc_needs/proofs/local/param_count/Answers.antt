use Rattle.std.proofs.Common.{◌≡◌, ◌<◌, ◌∙◌, ap, sym, subst, length, map, [], arith, rules}
use Rattle.std.proofs.lemmas.List.{length-map}
use Rattle.oc_tree.specs.View.{function_view, program_view}
use Rattle.oc_effects.specs.Effects.{params_at}
use Rattle.oc_needs.proofs.Froms.{get_of_map}
use Rattle.oc_needs.proofs.local.param_count.Goals as goal

pub returns : goal.returns
returns c =
    let fs = c.program.result.now.functions.items in
    let x = c.index.result.now in
    let same : program_view c.program.result.now ≡ c.args.effects.now.program = c.program.ensures.same ∙ ap (λ t. t.program) c.checked.ensures in
    let few : c.args.function < length (map function_view fs) = subst (λ p. c.args.function < length p.functions) (sym same) c.requires in
    let here : c.args.function < length fs = omega (arith, length-map fs function_view) in
    let count : c.len.result ≡ length x.params.items = search rules in
    let read = get_of_map (λ g. g.params) (map function_view fs) c.args.function (function_view x) [] few
    (sym (get_of_map function_view fs c.args.function x (function_view x) here c.index.ensures)) in
    subst (λ p. c.len.result ≡ length (params_at p c.args.function)) same (count ∙ sym (ap length read))
