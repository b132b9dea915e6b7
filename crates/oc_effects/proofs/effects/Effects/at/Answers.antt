use Rattle.std.proofs.Common.{◌<◌, ◌≤◌, ap, subst, sym, arith, ◌-◌, ◌∙◌, map, slice_get, option_map}
use Rattle.oc_tree.specs.Places.{placed}
use Rattle.oc_effects.specs.Effects.{effect_of}
use Rattle.oc_effects.specs.Flat.{all_effects}
use Rattle.oc_effects.specs.View.{effect_view}
use Rattle.oc_effects.proofs.Numbering.{Consecutive, none_lower, found_at, got_is, placed_is}
use Rattle.oc_effects.proofs.effects.Effects.at.Goals as goal

pub returns-then-s-eq0 : goal.returns-then-s-eq0
returns-then-s-eq0 c =
    let p = c.self.inside.checked.now.program in
    let s = c.args.s in
    let all = subst (Consecutive 1) c.self.invariant.all_are c.self.invariant.numbered in
    let l : s < 1 = omega (arith, c.if-s-eq0.true) in
    sym (none_lower s 1 (all_effects p p.functions) all l) ∙ placed_is p s ∙ ap (λ t. option_map (effect_of t.program) (placed t.program s)) c.self.view_is

pub returns : goal.returns
returns c =
    let p = c.self.inside.checked.now.program in
    let s = c.args.s in
    let all = subst (Consecutive 1) c.self.invariant.all_are c.self.invariant.numbered in
    let l : 1 ≤ s = omega (arith, c.if-s-eq0.false) in
    got_is c.deref.result.now (s - 1) c.get.result c.get.ensures.lookup.0 c.get.ensures.lookup.1
    ∙ ap (λ es. slice_get (map effect_view es) (s - 1)) c.deref.ensures.value
    ∙ ap (λ es. slice_get es (s - 1)) c.self.invariant.all_are
    ∙ sym (found_at s 1 (all_effects p p.functions) all l)
    ∙ placed_is p s
    ∙ ap (λ t. option_map (effect_of t.program) (placed t.program s)) c.self.view_is
