use Rattle.std.proofs.Common.{◌<◌, ap, sym, subst, arith, length, map, ◌∙◌}
use Rattle.std.proofs.lemmas.List.{length-map}
use Rattle.oc_effects.specs.Effects.{effects_at}
use Rattle.oc_effects.specs.View.{effect_view}
use Rattle.oc_effects.proofs.FlatLaws.{bounds, part_seen}
use Rattle.oc_effects.proofs.effects.Effects.of_function.Goals as goal

pub part-requires-clause-below : goal.part-requires-clause-below
part-requires-clause-below c =
    let i = c.self.inside.checked.now.program in
    let h : c.args.function < length i.functions = subst (λ t. c.args.function < length t.program.functions) (sym c.self.view_is) c.requires in
    (bounds i _ _ c.args.function c.self.invariant.all_are (c.as_slice-2.ensures.value ∙ c.self.invariant.starts_are) h).below

pub part-requires-clause-order : goal.part-requires-clause-order
part-requires-clause-order c =
    let i = c.self.inside.checked.now.program in
    let h : c.args.function < length i.functions = subst (λ t. c.args.function < length t.program.functions) (sym c.self.view_is) c.requires in
    (bounds i _ _ c.args.function c.self.invariant.all_are (c.as_slice-2.ensures.value ∙ c.self.invariant.starts_are) h).order

pub part-requires-clause-within : goal.part-requires-clause-within
part-requires-clause-within c =
    let i = c.self.inside.checked.now.program in
    let es = c.self.inside.effects.items in
    let h : c.args.function < length i.functions = subst (λ t. c.args.function < length t.program.functions) (sym c.self.view_is) c.requires in
    omega (
      arith,
      (bounds i _ _ c.args.function c.self.invariant.all_are (c.as_slice-2.ensures.value ∙ c.self.invariant.starts_are) h).within,
      length-map es effect_view,
      ap length
          c.as_slice.ensures.value,
    )

pub returns : goal.returns
returns c =
    let i = c.self.inside.checked.now.program in
    let h : c.args.function < length i.functions = subst (λ t. c.args.function < length t.program.functions) (sym c.self.view_is) c.requires in
    let all = ap (map effect_view) c.as_slice.ensures.value ∙ c.self.invariant.all_are in
    ap (map effect_view) c.part.ensures ∙ part_seen i c.as_slice.result.now c.as_slice-2.result.now c.args.function all (c.as_slice-2.ensures.value ∙ c.self.invariant.starts_are) h
    ∙ ap (λ t. effects_at t.program c.args.function) c.self.view_is
