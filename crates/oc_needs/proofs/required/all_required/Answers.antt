use Rattle.std.proofs.Common.{◌≡◌, ◌∙◌, ap, subst}
use Rattle.oc_tree.specs.Checked.{IsChecked, TChecked}
use Rattle.oc_needs.specs.Policies.{policies}
use Rattle.oc_needs.specs.Code.{required_by_from}
use Rattle.oc_needs.proofs.RequiredLaw.{required_is}
use Rattle.oc_needs.proofs.required.all_required.Goals as goal

pub returns : goal.returns
returns c =
    let p = c.args.summaries.now.program in
    let same : c.checked.result.now ≡ c.args.summaries.now = c.checked.ensures ∙ c.effects-effects.ensures in
    let checked = subst (λ (t : TChecked). IsChecked t.program t.groups) same c.program-program.ensures.checked in
    c.in_ok-required.ensures ∙ (ap (required_by_from p 0) (c.as_slice.ensures.value ∙ (c.in_ok-policies.ensures ∙ ap (λ t. policies t.program) c.effects-effects.ensures))
    ∙ required_is p c.args.summaries.now.groups checked 0 (policies p))
