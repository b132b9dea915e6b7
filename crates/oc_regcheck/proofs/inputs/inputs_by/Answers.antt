use Rattle.std.proofs.Common.{◌≡◌, ◌<◌, ◌∙◌, ap, map, subst, sym}
use Rattle.oc_tree.specs.Checked.{IsChecked, TChecked}
use Rattle.oc_needs.specs.Need.{needs}
use Rattle.oc_needs.specs.Code.{rows_of}
use Rattle.oc_needs.specs.CodeView.{local_view, rows_view}
use Rattle.oc_needs.specs.Requirements.{rising}
use Rattle.oc_needs.proofs.Locals.{locals_many}
use Rattle.oc_regcheck.specs.Inputs.{all_ways}
use Rattle.oc_regcheck.proofs.InputLaws.{ways_are}
use Rattle.oc_regcheck.proofs.inputs.inputs_by.Goals as goal

pub body_at-requires-clause-function : goal.body_at-requires-clause-function
body_at-requires-clause-function c =
    let many = locals_many c.args.summaries.now.program c.as_slice-known.result.now (ap (map local_view) c.as_slice-known.ensures.value ∙ c.in_ok-locals.ensures) in
    subst (λ n. c.args.requirement.now.function < n) (sym many) c.requires

pub returns : goal.returns
returns c =
    let m = c.args.summaries.now in
    let p = m.program in
    let same : c.checked.result.now ≡ m = c.checked.ensures ∙ c.effects.ensures in
    let checked = subst (λ (t : TChecked). IsChecked t.program t.groups) same c.program-program.ensures.checked in
    let policy = c.in_ok-asked.ensures.policy in
    let body = c.in_ok-body.ensures in
    let rows = ap rows_view c.as_slice.ensures.value ∙ (c.in_ok-rows.ensures ∙ ap (λ q. rows_of p (needs p q)) policy) in
    let sites = c.as_slice-sites.ensures.value in
    ap rising (c.in_ok-inputs.ensures ∙ (λ i. all_ways (body.summaries i).program (policy i) (rows i) (body.function i) (sites i)))
    ∙ ways_are p m.groups checked c.args.policy c.args.requirement.now.function c.args.requirement.now.sites.items
