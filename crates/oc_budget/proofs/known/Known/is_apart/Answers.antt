use Rattle.std.proofs.Common.{◌≤◌, ◌-◌, ◌∙◌, ap, length, arith}
use Rattle.std.proofs.lemmas.List.{length-map}
use Rattle.oc_tree.specs.Regions.{region_view}
use Rattle.oc_effects.specs.Effects.{effects_at}
use Rattle.oc_effects.specs.View.{effect_view}
use Rattle.oc_budget.proofs.ApartLaws.{apart_before, apart_behind}
use Rattle.oc_budget.proofs.known.Known.is_apart.Goals as goal

pub returns-then-range-first : goal.returns-then-range-first
returns-then-range-first c =
    let e = c.self.invariant.2 ∙ ap (λ m. m.program) c.self.view_is in
    λ h. apart_behind _ _ (region_view c.args.region.now) c.args.place c.first-first.result e c.first-first.ensures.numbered c.if-range-first.true

pub returns-else-range-first : goal.returns-else-range-first
returns-else-range-first c =
    let e = c.self.invariant.2 ∙ ap (λ m. m.program) c.self.view_is in
    let own = c.of_function-count.result.now in
    let p = c.self.inside.effects.now.program in
    let r = region_view c.args.region.now in
    let first = c.first-first.result in
    λ h. (
    let few : length own ≤ c.saturating_sub.result = grind (arith, h) in
    let all : length (effects_at p c.args.place) ≤ r.first - first = omega (arith, few, length-map own effect_view, ap length c.of_function-count.ensures, c.saturating_sub.ensures) in
    apart_before p _ r c.args.place first e c.first-first.ensures.numbered all
    )
