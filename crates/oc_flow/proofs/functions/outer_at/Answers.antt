use Rattle.std.proofs.Common.{◌<◌, ◌^◌, ap, ◌∙◌, sym, subst, length, arith}
use Rattle.std.proofs.lemmas.List.{length-map}
use Rattle.oc_tree.specs.Tree.{TProgram}
use Rattle.oc_tree.specs.View.{function_view}
use Rattle.oc_tree.specs.Checked.{AnyName}
use Rattle.oc_tree.specs.Places.{FewVariables}
use Rattle.oc_effects.specs.Effects.{params_at}
use Rattle.oc_tree.proofs.Few.{few_variables}
use Rattle.oc_flow.proofs.Counts.{params_are, params_get}
use Rattle.oc_flow.proofs.functions.outer_at.Goals as goal

pub overflow_cast-result : goal.overflow_cast-result
overflow_cast-result c =
    let p = c.args.checked.now.program in
    let checked = c.program-program.ensures.checked in
    let few = few_variables AnyName p checked.form checked.unbroken in
    let n = few.nvs in
    let e = ap (λ (t : TProgram). length t.names.nvs) c.program-program.ensures.same in
    omega (arith, n, e, c.len.ensures)

pub overflow_cast-result-2 : goal.overflow_cast-result-2
overflow_cast-result-2 c =
    let p = c.args.checked.now.program in
    let fs = c.program-program.result.now.functions.items in
    let g = c.index.result.now in
    let checked = c.program-program.ensures.checked in
    let few = few_variables AnyName p checked.form checked.unbroken in
    let same = c.program-program.ensures.same in
    let e = ap (λ (t : TProgram). length t.functions) same in
    let m = length-map fs function_view in
    let h : c.args.f < length fs = omega (arith, e, m, c.requires) in
    let n = subst (λ (t : TProgram). FewVariables t) (sym same) few in
    let l = n.params c.args.f (function_view g) (omega (arith, m, h)) in
    let k : length g.params.items < 2 ^ 32 = subst (λ d. length d.params < 2 ^ 32) (params_get fs c.args.f g h ∙ ap function_view (sym c.index.ensures)) l in
    omega (arith, k, c.len-2.ensures)

pub returns-clause-params : goal.returns-clause-params
returns-clause-params c =
    let fs = c.program-program.result.now.functions.items in
    let same = c.program-program.ensures.same in
    let e = ap (λ (t : TProgram). length t.functions) same in
    let m = length-map fs function_view in
    let h : c.args.f < length fs = omega (arith, e, m, c.requires) in
    let a = params_are fs c.args.f c.index.result.now c.index.result.now h c.index.ensures in
    let b = ap (λ (t : TProgram). length (params_at t c.args.f)) same in
    omega (arith, a, b, c.len-2.ensures)
