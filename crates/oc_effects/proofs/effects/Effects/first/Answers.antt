use Rattle.std.proofs.Common.{◌≡◌, ◌<◌, length, ap, subst, sym}
use Rattle.oc_effects.specs.Effects.{effects_at}
use Rattle.oc_effects.proofs.Numbering.{Consecutive, function_numbered, first_is}
use Rattle.oc_effects.proofs.effects.Effects.first.Goals as goal

pub returns-else-is_empty-clause-numbered : goal.returns-else-is_empty-clause-numbered
returns-else-is_empty-clause-numbered c =
    let i = c.self.inside.checked.now.program in
    let p = c.args.self.now.program in
    let same : i ≡ p = ap (λ t. t.program) c.self.view_is in
    let all = subst (λ es. Consecutive 1 es) c.self.invariant.all_are c.self.invariant.numbered in
    let n = function_numbered i 1 i.functions c.args.function all (subst (λ q. c.args.function < length q.functions) (sym same) c.requires) in
    let own = subst (λ q. Consecutive n.0 (effects_at q c.args.function)) same n.1 in
    first_is c.of_function-effects.result.now c.index-effects-0.result (effects_at p c.args.function) n.0 c.of_function-effects.ensures own
