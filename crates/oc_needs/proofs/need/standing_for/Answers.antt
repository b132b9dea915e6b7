use Rattle.std.proofs.Common.{◌≡◌, [], ◌∙◌, sym, ap, filter}
use Rattle.oc_effects.specs.View.{called_view}
use Rattle.oc_needs.specs.Code.{stands_for}
use Rattle.oc_needs.proofs.SiteLists.{empty_is}
use Rattle.oc_needs.proofs.Idle.{none_stand, nvs_stand}
use Rattle.oc_needs.proofs.need.standing_for.Goals as goal

pub returns-then-is_empty : goal.returns-then-is_empty
returns-then-is_empty c =
    let call = called_view c.args.call.now in
    let vs = c.args.variables.now in
    let none : c.args.row.now ≡ [] = empty_is _ (sym c.is_empty.ensures ∙ c.if-is_empty.true) in
    c.new.ensures.items ∙ (sym (none_stand call vs) ∙ ap (λ row. filter (stands_for call row) vs) (sym none))

pub returns-then-not-has_param : goal.returns-then-not-has_param
returns-then-not-has_param c =
    c.in_ok-standing.ensures ∙ nvs_stand (called_view c.args.call.now) c.args.row.now c.args.variables.now (sym c.has_param.ensures ∙ c.if-not-has_param.true)
