use Rattle.std.proofs.Common.{◌≡◌, ◌∙◌, ap, length, refl, subst, sym}
use Rattle.std.specs.Prelude.{IfOk}
use Rattle.std.proofs.lemmas.Bool.{ltb-true, ltb-false}
use Rattle.std.proofs.lemmas.Option.{slice_get_past, slice_get_read}
use Rattle.oc_needs.specs.Requirements.{rising}
use Rattle.oc_needs.specs.View.{requirement_view}
use Rattle.oc_regcheck.proofs.InputLaws.{inputs_some, inputs_none}
use Rattle.oc_regcheck.proofs.inputs.inputs_of.Goals as goal

pub returns-in-Some : goal.returns-in-Some
returns-in-Some c =
    let all = c.args.all.now in
    let required = requirement_view c.args.requirement.now in
    let place = ltb-true required.policy (length all) (sym c.in-Some.ensures.lookup.0) in
    let found = slice_get_read all (length all) required.policy c.in-Some.policy.now refl place c.in-Some.ensures.lookup.1 in
    subst (λ ns. IfOk c.inputs_by.result (λ s. rising s.items ≡ rising ns)) (inputs_some c.args.summaries.now.program required all c.in-Some.policy.now c.requires.policies found) c.inputs_by.ensures

pub returns-in-None : goal.returns-in-None
returns-in-None c =
    let all = c.args.all.now in
    let required = requirement_view c.args.requirement.now in
    let past = slice_get_past all required.policy (ltb-false required.policy (length all) (sym c.in-None.ensures.lookup.0)) in
    ap rising (c.new.ensures.items ∙ sym (inputs_none c.args.summaries.now.program required all c.requires.policies past))
