use Rattle.std.proofs.Common.{◌∙◌, sym}
use Rattle.oc_effects.specs.Effects.{effects_at}
use Rattle.oc_needs.specs.Code.{sources}
use Rattle.oc_needs.proofs.Idle.{none_looped}
use Rattle.oc_needs.proofs.sites.looped_sites.Goals as goal

pub returns-then-not-body : goal.returns-then-not-body
returns-then-not-body c =
    let b = c.args.body.now in
    let p = b.summaries.now.program in
    c.new.ensures.items ∙ sym (none_looped p b.function c.args.x (sources p b.function (effects_at p b.function)) (sym c.requires.has_looped ∙ c.if-not-body.true))
