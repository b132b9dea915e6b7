use Rattle.std.proofs.Common.{rules, ◌≡◌, ◌<◌, ◌≤◌, ◌+◌, Some, map, length, sym, ap, subst, ◌∙◌, arith}
use Rattle.std.specs.Prelude.{slice_get}
use Rattle.std.proofs.Math.ListN.{get_or, set}
use Rattle.std.proofs.lemmas.List.{length-map, length-set}
use Rattle.oc_tree.specs.Calls.{call_links}
use Rattle.oc_tree.specs.View.{function_view}
use Rattle.oc_weight.specs.Capped.{capped}
use Rattle.oc_weight.specs.Order.{IsOrder}
use Rattle.oc_weight.proofs.Levels.{all_taken, one_taken}
use Rattle.oc_weight.proofs.OrderTables.{IsWorked, place_within, seen_at}
use Rattle.oc_weight.proofs.measure.in_order.Goals as goal

pub bounds-functions-place : goal.bounds-functions-place
bounds-functions-place g c = place_within c.requires.order c.loop-i.i c.at-place.result (omega arith) c.at-place.ensures

pub offset_bounds-functions-place : goal.offset_bounds-functions-place
offset_bounds-functions-place g c =
    let below : c.at-place.result < length c.args.functions.now = place_within c.requires.order c.loop-i.i c.at-place.result (omega arith) c.at-place.ensures in
    search rules

pub index_mut-requires : goal.index_mut-requires
index_mut-requires g c =
    let below : c.at-place.result < length c.args.functions.now = place_within c.requires.order c.loop-i.i c.at-place.result (omega arith) c.at-place.ensures in
    omega (arith, below, c.loop-i.invariant.many)

pub loop-i-preserved : goal.loop-i-preserved
loop-i-preserved g c =
    let m = g.M.Measure in
    let fs = map function_view c.args.functions.now in
    let order = c.args.order.now.0 in
    let i = c.loop-i.i in
    let ws = c.loop-i.known.items in
    let place = get_or order i 0 in
    let f = function_view c.index-functions-place.result in
    let taken = c.measure-taken.result in
    let h : i < length order = omega arith in
    let n : length fs ≡ length c.args.functions.now = length-map c.args.functions.now function_view in
    let is : IsOrder (call_links fs) (length fs) order = subst (λ k. IsOrder (call_links fs) k order) (sym n) c.requires.order in
    let at : c.index-functions-place.result ≡ get_or c.args.functions.now c.at-place.result c.index-functions-place.result = search rules in
    let below : c.at-place.result < length c.args.functions.now = place_within c.requires.order i c.at-place.result h c.at-place.ensures in
    let seen = subst (λ x. slice_get fs x ≡ Some f) c.at-place.ensures (seen_at function_view c.args.functions.now c.at-place.result c.index-functions-place.result below at) in
    let told : capped (m.measure fs ws f) ≡ taken = ap (λ l. capped (m.measure fs l f)) (sym c.as_slice.ensures.value) ∙ sym c.measure-taken.ensures in
    record {
      many = length-set ws c.at-place.result taken ∙ c.loop-i.invariant.many;
      worked = subst (λ p. IsWorked capped (m.levels fs) order (set ws p taken) (i + 1)) (sym c.at-place.ensures)
          (subst (λ k. IsWorked capped (m.levels fs) order (set ws place k) (i + 1)) told
          (one_taken g.met.M.Measure.laws fs order is ws i f h (c.loop-i.invariant.many ∙ sym n) c.loop-i.invariant.worked seen));
    }

pub returns : goal.returns
returns g c =
    let fs = map function_view c.args.functions.now in
    let order = c.args.order.now.0 in
    let n : length fs ≡ length c.args.functions.now = length-map c.args.functions.now function_view in
    let is : IsOrder (call_links fs) (length fs) order = subst (λ k. IsOrder (call_links fs) k order) (sym n) c.requires.order in
    let past : length order ≤ c.loop-i.i = omega arith in
    let within : c.loop-i.i ≤ length order = omega arith in
    all_taken g.met.M.Measure.laws fs order is c.loop-i.known.items c.loop-i.i past within (c.loop-i.invariant.many ∙ sym n) c.loop-i.invariant.worked
    ∙ ap (λ k. map capped (g.M.Measure.levels fs k)) n
