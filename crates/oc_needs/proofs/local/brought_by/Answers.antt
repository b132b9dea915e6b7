use Rattle.std.proofs.Common.{filter, ap, ◌∙◌}
use Rattle.oc_flow.specs.Variables.{is_among}
use Rattle.oc_needs.proofs.local.brought_by.Goals as goal

pub returns : goal.returns
returns c =
    let vs = c.args.own.now in
    c.in_ok-kept.ensures ∙ ap (λ us. filter (λ v. is_among v us) vs) c.as_slice.ensures.value ∙ (λ i. filter (λ v. c.in_ok-brought.ensures.among v i) vs)
