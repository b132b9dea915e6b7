use Rattle.std.proofs.Common.{ap, sym, ◌-◌, ◌∙◌, slice_get}
use Rattle.oc_effects.specs.Effects.{effects_at}
use Rattle.oc_effects.proofs.Numbering.{none_lower, found_at, got_is}
use Rattle.oc_effects.proofs.effects.Effects.find_in.Goals as goal

pub returns-then-s-first : goal.returns-then-s-first
returns-then-s-first c = sym (none_lower c.args.s c.first-first.result (effects_at c.args.self.now.program c.args.function) c.first-first.ensures.numbered c.if-s-first.true)

pub returns : goal.returns
returns c =
    let i = c.args.s - c.first-first.result in
    got_is c.of_function-effects.result.now i c.get.result c.get.ensures.lookup.0 c.get.ensures.lookup.1
    ∙ ap (λ es. slice_get es i) c.of_function-effects.ensures
    ∙ sym (found_at c.args.s c.first-first.result (effects_at c.args.self.now.program c.args.function) c.first-first.ensures.numbered c.if-s-first.false)
