use Rattle.std.proofs.Common.{◌≡◌, ◌∙◌, false, sym, ap}
use Rattle.oc_effects.specs.Effects.{effects_at}
use Rattle.oc_needs.specs.Requirements.{in_order}
use Rattle.oc_needs.specs.Code.{callees, is_any_needed}
use Rattle.oc_needs.specs.CodeView.{rows_view, sites_view}
use Rattle.oc_needs.proofs.Idle.{idle_lists}
use Rattle.oc_needs.proofs.required.lists_below.Goals as goal

pub returns-then-not-is_any_needed : goal.returns-then-not-is_any_needed
returns-then-not-is_any_needed c =
    let body = c.args.body.now in
    let p = body.summaries.now.program in
    let rows = rows_view c.args.rows.now in
    let idle : is_any_needed rows (callees (effects_at p body.function)) ≡ false =
    ap (is_any_needed rows) (sym c.requires.callees ∙ sym c.as_slice.ensures.value) ∙ (sym c.is_any_needed.ensures ∙ c.if-not-is_any_needed.true) in
    ap sites_view c.new.ensures.items ∙ sym (ap in_order (idle_lists p body.function rows (effects_at p body.function) idle))
