use Rattle.std.proofs.Common.{◌≡◌, ◌-◌, ◌≤◌, ◌∙◌, ap, sym, map, length, drop, arith}
use Rattle.std.proofs.lemmas.List.{drop_all}
use Rattle.oc_effects.specs.View.{effect_view}
use Rattle.oc_needs.specs.Requirements.{in_order}
use Rattle.oc_needs.specs.Code.{call_lists}
use Rattle.oc_needs.specs.CodeView.{rows_view, sites_view}
use Rattle.oc_needs.proofs.RequiredLaw.{back_more}
use Rattle.oc_needs.proofs.required.call_lists.Goals as goal

pub loop-behind-init : goal.loop-behind-init
loop-behind-init c =
    let n : length c.args.effects.now ≤ length c.args.effects.now - 0 = omega arith in
    ap sites_view c.new-lists.ensures.items ∙ sym
    (ap (λ xs. in_order (call_lists c.args.body.now.summaries.now.program c.args.body.now.function (rows_view c.args.rows.now) (map effect_view xs)))
    (drop_all (length c.args.effects.now - 0) c.args.effects.now n))

pub loop-behind-preserved : goal.loop-behind-preserved
loop-behind-preserved c =
    back_more effect_view c.args.body.now.summaries.now.program c.args.body.now.function (rows_view c.args.rows.now) c.args.effects.now c.loop-behind.behind
    c.index-effects-count.result (sites_view c.loop-behind.lists.items) _ (omega arith) c.index-effects-count.is c.loop-behind.invariant
    c.in_ok-add_call_sites.ensures

pub returns : goal.returns
returns c =
    let n : length c.args.effects.now - c.loop-behind.behind ≡ 0 = omega arith in
    c.loop-behind.invariant ∙ ap (λ k. in_order (call_lists c.args.body.now.summaries.now.program c.args.body.now.function (rows_view c.args.rows.now) (map effect_view (drop k c.args.effects.now)))) n
