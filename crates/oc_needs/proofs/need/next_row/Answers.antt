use Rattle.std.proofs.Common.{◌∙◌, ap, sym}
use Rattle.oc_effects.specs.Effects.{effects_at}
use Rattle.oc_needs.specs.Code.{is_stale}
use Rattle.oc_needs.specs.CodeView.{rows_view, level_view}
use Rattle.oc_needs.proofs.NeedLevels.{made_is, made_changed}
use Rattle.oc_needs.proofs.need.next_row.Goals as goal

pub returns-then-stale-clause-row : goal.returns-then-stale-clause-row
returns-then-stale-clause-row c =
    let body = c.args.body.now in
    let p = body.summaries.now.program in
    let q = c.args.asked.now.policy in
    let g = body.function in
    let stale = ap (λ row. is_stale q g row (effects_at p g) c.as_slice-changed.result.now) (sym c.row_at-before.ensures) ∙ (sym c.is_stale-stale.ensures ∙ c.if-stale.true) in
    c.in_ok-row.ensures.row ∙ made_is p q (level_view c.args.old.now) g _ _ c.as_slice-changed.ensures.value (ap rows_view c.as_slice-rows.ensures.value) stale

pub returns-then-stale-clause-changed : goal.returns-then-stale-clause-changed
returns-then-stale-clause-changed c =
    let body = c.args.body.now in
    let p = body.summaries.now.program in
    let q = c.args.asked.now.policy in
    let g = body.function in
    let stale = ap (λ row. is_stale q g row (effects_at p g) c.as_slice-changed.result.now) (sym c.row_at-before.ensures) ∙ (sym c.is_stale-stale.ensures ∙ c.if-stale.true) in
    c.in_ok-row.ensures.changed ∙ made_changed p q (level_view c.args.old.now) g _ _ c.as_slice-changed.ensures.value (ap rows_view c.as_slice-rows.ensures.value) stale
