use Rattle.std.proofs.Common.{sym, ap, subst, ◌∙◌, ◌<◌, ◌^◌, length, map}
use Rattle.std.specs.List.{All}
use Rattle.oc_tree.specs.View.{function_view}
use Rattle.oc_tree.specs.Checked.{AnyName}
use Rattle.oc_tree.proofs.Few.{few_functions, few_variables}
use Rattle.oc_effects.specs.Flat.{all_effects, starts_from}
use Rattle.oc_effects.proofs.Numbering.{Consecutive, all_numbered}
use Rattle.oc_effects.proofs.effects.Effects.new.Goals as goal

pub new-requires-clause-functions : goal.new-requires-clause-functions
new-requires-clause-functions c =
    let p = c.args.checked.now.program in
    let k = c.program-program.ensures.checked in
    subst (λ q. length q.functions < 2 ^ 32) (sym c.program-program.ensures.same) (few_functions AnyName p k.form k.unbroken)

pub new-requires-clause-nvs : goal.new-requires-clause-nvs
new-requires-clause-nvs c =
    let p = c.args.checked.now.program in
    let k = c.program-program.ensures.checked in
    subst (λ q. length q.names.nvs < 2 ^ 32) (sym c.program-program.ensures.same) (few_variables AnyName p k.form k.unbroken).nvs

pub all_effects-requires : goal.all_effects-requires
all_effects-requires c =
    let p = c.args.checked.now.program in
    let k = c.program-program.ensures.checked in
    subst (λ fs. All (λ f. length f.params < 2 ^ 32) (map function_view fs)) (sym c.as_slice.ensures.value)
    (subst (λ q. All (λ f. length f.params < 2 ^ 32) q.functions) (sym c.program-program.ensures.same) (few_variables AnyName p k.form k.unbroken).params)

pub invariant_of-result : goal.invariant_of-result
invariant_of-result c =
    let p = c.args.checked.now.program in
    let e = c.in_ok-effects.ensures in
    let known = c.in_ok-known.ensures ∙ c.program-program.ensures.same in
    let functions = ap (map function_view) c.as_slice.ensures.value ∙ ap (λ q. q.functions) c.program-program.ensures.same in
    let all = e.all ∙ ap (λ q. all_effects q (map function_view c.as_slice.result.now)) known ∙ ap (all_effects p) functions in
    let starts = e.starts ∙ ap (λ q. starts_from q 0 (map function_view c.as_slice.result.now)) known ∙ ap (starts_from p 0) functions in
    record {
      all_are = all;
      starts_are = starts;
      numbered = subst (Consecutive 1) (sym all) (all_numbered p c.program-program.ensures.checked.form.numbered.statements);
    }
