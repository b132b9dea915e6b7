use Rattle.std.proofs.Common.{◌∙◌, sym, ap}
use Rattle.oc_effects.specs.View.{effect_view}
use Rattle.oc_needs.specs.Code.{added}
use Rattle.oc_needs.specs.CodeView.{rows_view, sites_view}
use Rattle.oc_needs.proofs.Idle.{none_listed}
use Rattle.oc_needs.proofs.required.add_call_sites.Goals as goal

pub returns : goal.returns
returns c = c.in_ok-add_sites.ensures ∙ ap (λ ls. added ls (sites_view c.args.lists.now.items)) c.in_ok-sites.ensures

pub returns-then-not-calls : goal.returns-then-not-calls
returns-then-not-calls c =
    let body = c.args.body.now in
    let none = none_listed body.summaries.now.program body.function (rows_view c.args.rows.now) (effect_view c.args.effect.now) (sym c.calls.ensures ∙ c.if-not-calls.true) in
    ap (λ ls. added ls (sites_view c.args.lists.now.items)) (sym none)
