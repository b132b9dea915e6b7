use Rattle.std.proofs.Common.{◌∙◌, sym, ap, ◌++◌, append-nil}
use Rattle.oc_effects.specs.View.{effect_view}
use Rattle.oc_needs.specs.CodeView.{rows_view}
use Rattle.oc_needs.proofs.Idle.{none_needed}
use Rattle.oc_needs.proofs.need.add_needed_in_call.Goals as goal

pub returns-then-not-calls : goal.returns-then-not-calls
returns-then-not-calls c =
    let old = c.args.needing.now.items in
    let none = none_needed (rows_view c.args.rows.now) c.args.variables.now (effect_view c.args.effect.now).call (sym c.calls.ensures ∙ c.if-not-calls.true) in
    sym (append-nil old) ∙ ap (λ vs. old ++ vs) (sym none)
