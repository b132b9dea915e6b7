use Rattle.std.proofs.Common.{rules, ◌≡◌, ◌<◌, ◌≤◌, Some, length, sym, ap, subst, ◌∙◌, arith}
use Rattle.std.specs.Prelude.{slice_get}
use Rattle.std.proofs.Math.ListN.{get_or}
use Rattle.std.proofs.lemmas.List.{length-map, length-set}
use Rattle.oc_tree.specs.Costs.{function_cost}
use Rattle.oc_tree.specs.View.{function_view}
use Rattle.oc_reach.proofs.Lists.{in_at}
use Rattle.oc_weight.proofs.OrderTables.{seen_at}
use Rattle.oc_budget.specs.Costs.{is_use}
use Rattle.oc_budget.specs.Fitting.{IsFitted}
use Rattle.oc_budget.proofs.CalleeLaws.{cost_fits, costs_worked, one_more}
use Rattle.oc_budget.proofs.FittingLaws.{there}
use Rattle.oc_budget.proofs.order.in_order.Goals as goal

pub bounds-functions-place : goal.bounds-functions-place
bounds-functions-place c =
    let order = c.args.order.now.0 in
    let fs = c.args.known.now.program.functions in
    let gs = c.functions-functions.result.now in
    let h : c.loop-i.i < length order = omega arith in
    let many : length gs ≡ length fs = sym (length-map gs function_view) ∙ ap length c.functions-functions.ensures in
    let below : c.at-place.result < length fs = subst (λ x. x < length fs) (sym c.at-place.ensures) (c.requires.order.within (get_or order c.loop-i.i 0) (in_at order c.loop-i.i h)) in
    subst (λ n. c.at-place.result < n) (sym many) below

pub offset_bounds-functions-place : goal.offset_bounds-functions-place
offset_bounds-functions-place c =
    let order = c.args.order.now.0 in
    let fs = c.args.known.now.program.functions in
    let gs = c.functions-functions.result.now in
    let h : c.loop-i.i < length order = omega arith in
    let many : length gs ≡ length fs = sym (length-map gs function_view) ∙ ap length c.functions-functions.ensures in
    let low : c.at-place.result < length fs = subst (λ x. x < length fs) (sym c.at-place.ensures) (c.requires.order.within (get_or order c.loop-i.i 0) (in_at order c.loop-i.i h)) in
    let below : c.at-place.result < length gs = subst (λ n. c.at-place.result < n) (sym many) low in
    search rules

pub index_mut-requires : goal.index_mut-requires
index_mut-requires c =
    let order = c.args.order.now.0 in
    let fs = c.args.known.now.program.functions in
    let h : c.loop-i.i < length order = omega arith in
    let below : c.at-place.result < length fs = subst (λ x. x < length fs) (sym c.at-place.ensures) (c.requires.order.within (get_or order c.loop-i.i 0) (in_at order c.loop-i.i h)) in
    omega (arith, below, c.loop-i.invariant.many)

pub unwrap-cost-requires : goal.unwrap-cost-requires
unwrap-cost-requires c =
    let m = c.args.known.now in
    let fs = m.program.functions in
    let order = c.args.order.now.0 in
    let gs = c.functions-functions.result.now in
    let i = c.loop-i.i in
    let ws = c.loop-i.costs.items in
    let g = c.index-functions-place.result in
    let u = c.at-place.result in
    let h : i < length order = omega arith in
    let many : length gs ≡ length fs = sym (length-map gs function_view) ∙ ap length c.functions-functions.ensures in
    let at : g ≡ get_or gs u g = search rules in
    let low : u < length fs = subst (λ x. x < length fs) (sym c.at-place.ensures) (c.requires.order.within (get_or order i 0) (in_at order i h)) in
    let below : u < length gs = subst (λ n. u < n) (sym many) low in
    let seen : slice_get fs u ≡ Some (function_view g) = ap (λ l. slice_get l u) (sym c.functions-functions.ensures) ∙ seen_at function_view gs u g below at in
    let placed = ap (slice_get fs) (sym c.at-place.ensures) ∙ seen in
    let told = ap (λ l. function_cost fs (is_use m.program) m.regions l (function_view g)) c.as_slice.ensures.value in
    let fits = cost_fits m.program m.groups c.requires.marked.checked (is_use m.program) m.regions order c.requires.order ws i (function_view g) h c.loop-i.invariant.worked placed in
    there c.function_cost.result (function_cost fs (is_use m.program) m.regions ws (function_view g)) (subst (IsFitted c.function_cost.result) told c.function_cost.ensures) fits

pub loop-i-preserved : goal.loop-i-preserved
loop-i-preserved c =
    let m = c.args.known.now in
    let fs = m.program.functions in
    let order = c.args.order.now.0 in
    let gs = c.functions-functions.result.now in
    let i = c.loop-i.i in
    let ws = c.loop-i.costs.items in
    let g = c.index-functions-place.result in
    let u = c.at-place.result in
    let w = c.unwrap-cost.result in
    let h : i < length order = omega arith in
    let many : length gs ≡ length fs = sym (length-map gs function_view) ∙ ap length c.functions-functions.ensures in
    let at : g ≡ get_or gs u g = search rules in
    let low : u < length fs = subst (λ x. x < length fs) (sym c.at-place.ensures) (c.requires.order.within (get_or order i 0) (in_at order i h)) in
    let below : u < length gs = subst (λ n. u < n) (sym many) low in
    let seen : slice_get fs u ≡ Some (function_view g) = ap (λ l. slice_get l u) (sym c.functions-functions.ensures) ∙ seen_at function_view gs u g below at in
    let told = ap (λ l. function_cost fs (is_use m.program) m.regions l (function_view g)) c.as_slice.ensures.value in
    let cost : w ≡ function_cost fs (is_use m.program) m.regions c.as_slice.result.now (function_view g) = search rules in
    record {
      many = length-set ws u w ∙ c.loop-i.invariant.many;
      worked = one_more fs (is_use m.program) m.regions order c.requires.order ws i u w (function_view g) h c.loop-i.invariant.many c.loop-i.invariant.worked c.at-place.ensures seen (cost ∙ told);
    }

pub returns : goal.returns
returns c =
    let m = c.args.known.now in
    let order = c.args.order.now.0 in
    let past : length order ≤ c.loop-i.i = omega arith in
    let within : c.loop-i.i ≤ length order = omega arith in
    costs_worked m.program.functions (is_use m.program) m.regions order c.requires.order c.loop-i.costs.items c.loop-i.i past within c.loop-i.invariant.many c.loop-i.invariant.worked
