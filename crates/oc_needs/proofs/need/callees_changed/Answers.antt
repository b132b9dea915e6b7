use Rattle.std.proofs.Common.{ap, true, ◌∙◌}
use Rattle.std.specs.List.{list_any}
use Rattle.std.proofs.Math.ListN.{get_or}
use Rattle.oc_effects.specs.Effects.{effects_at}
use Rattle.oc_needs.proofs.Stale.{any_callee}
use Rattle.oc_needs.proofs.need.callees_changed.Goals as goal

pub returns : goal.returns
returns c =
    let b = c.args.body.now in
    let changed = c.args.changed.now in
    c.any_changed.ensures ∙ ap (list_any (λ f. get_or changed f true)) (c.as_slice.ensures.value ∙ c.requires.callees) ∙ any_callee changed (effects_at b.summaries.now.program b.function)
