use Rattle.std.proofs.Common.{◌≡◌, ◌∙◌, ◌++◌, false, sym, ap, append-nil}
use Rattle.oc_effects.specs.Effects.{effects_at}
use Rattle.oc_flow.specs.Variables.{variables}
use Rattle.oc_needs.specs.Code.{callees, is_any_needed}
use Rattle.oc_needs.specs.CodeView.{rows_view}
use Rattle.oc_needs.proofs.Idle.{idle_calls}
use Rattle.oc_needs.proofs.need.add_needed_below.Goals as goal

pub returns-then-not-is_any_needed : goal.returns-then-not-is_any_needed
returns-then-not-is_any_needed c =
    let body = c.args.body.now in
    let p = body.summaries.now.program in
    let rows = rows_view c.args.rows.now in
    let old = c.args.needing.now.items in
    let idle : is_any_needed rows (callees (effects_at p body.function)) ≡ false =
    ap (is_any_needed rows) (sym c.requires.callees ∙ sym c.as_slice.ensures.value) ∙ (sym c.is_any_needed.ensures ∙ c.if-not-is_any_needed.true) in
    sym (append-nil old) ∙ ap (λ vs. old ++ vs) (sym (idle_calls rows (variables p body.function) (effects_at p body.function) idle))
