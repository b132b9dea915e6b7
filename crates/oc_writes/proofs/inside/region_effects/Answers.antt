use Rattle.std.proofs.Common.{◌≡◌, ◌++◌, [], drop, map, ap, sym, ◌∙◌, subst, append-nil, arith}
use Rattle.std.proofs.lemmas.List.{drop_all}
use Rattle.oc_tree.specs.Regions.{region_view}
use Rattle.oc_tree.specs.Checked.{TChecked, IsChecked}
use Rattle.oc_effects.specs.View.{effect_view}
use Rattle.oc_effects.specs.Effects.{effects_at}
use Rattle.oc_flow.specs.Known.{effects_seen}
use Rattle.oc_writes.specs.Seen.{standing_in}
use Rattle.oc_writes.proofs.Standing.{standing_is}
use Rattle.oc_writes.proofs.inside.region_effects.Goals as goal

pub returns : goal.returns
returns c =
    let p = c.args.effects.now.program in
    let r = region_view c.args.region.now in
    let items = c.of_function-effect-items.result.now in
    let z : drop c.loop-effect.effect-index items ≡ [] = drop_all c.loop-effect.effect-index items (omega arith) in
    let all : effects_seen c.loop-effect.inside.items ≡ standing_in p r (effects_at p r.function) =
    sym (append-nil (effects_seen c.loop-effect.inside.items))
    ∙ ap (λ l. effects_seen c.loop-effect.inside.items ++ standing_in p r (map effect_view l)) (sym z)
    ∙ c.loop-effect.invariant in
    let checked : IsChecked p c.args.effects.now.groups = subst (λ (k : TChecked). IsChecked k.program k.groups) c.checked.ensures c.program-checked.ensures.checked in
    all ∙ standing_is p r _ checked
