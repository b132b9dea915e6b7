use Rattle.std.proofs.Common.{◌≡◌, [], ◌∙◌, sym, ap, filter}
use Rattle.oc_flow.specs.Variables.{variables}
use Rattle.oc_needs.specs.Code.{is_given_to, needing}
use Rattle.oc_needs.specs.CodeView.{rows_view}
use Rattle.oc_needs.proofs.SiteLists.{empty_is}
use Rattle.oc_needs.proofs.Idle.{none_given}
use Rattle.oc_needs.proofs.need.row.Goals as goal

pub returns-then-is_empty : goal.returns-then-is_empty
returns-then-is_empty c =
    let p = c.args.body.now.summaries.now.program in
    let g = c.args.body.now.function in
    let none : needing p c.args.asked.now.policy (rows_view c.args.rows.now) g ≡ [] =
    sym c.in_ok-ends.ensures ∙ (sym c.as_slice-needing.ensures.value ∙ empty_is _ (sym c.is_empty.ensures ∙ c.if-is_empty.true)) in
    c.new.ensures.items ∙ (sym (none_given p g (variables p g)) ∙ ap (λ ends. filter (is_given_to p g ends) (variables p g)) (sym none))
