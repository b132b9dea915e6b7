use Rattle.std.proofs.Common.{◌≡◌, ◌+◌, ◌*◌, map, ap, ◌∙◌}
use Rattle.oc_tree.specs.View.{expr_view, block_view, function_view}
use Rattle.oc_tree.specs.Weight.{expr_cost, block_cost}
use Rattle.oc_weight.specs.Capped.{capped}
use Rattle.oc_weight.proofs.CappedLaws.{capped_for, capped_while}
use Rattle.oc_weight.proofs.cost.+cost.Goals as goal

pub for_cost-returns-clause-cost : goal.for_cost-returns-clause-cost
for_cost-returns-clause-cost t c =
    let y = block_cost (map function_view c.args.functions.now) c.args.weights.now (block_view c.args.body.now) in
    let n = c.args.turns in
    let turn : c.plus-turn.result ≡ capped (9 + capped y) = c.plus-turn.ensures.sum ∙ ap (λ v. capped (9 + v)) c.block_cost.ensures.cost in
    let all : c.times.result ≡ capped (n * capped (9 + capped y)) = c.times.ensures.product ∙ ap (λ v. capped (n * v)) turn in
    c.plus.ensures.sum ∙ ap (λ v. capped (6 + v)) all ∙ capped_for n y

pub while_cost-returns-clause-cost : goal.while_cost-returns-clause-cost
while_cost-returns-clause-cost t c =
    let x = expr_cost (expr_view c.args.condition.now) in
    let y = block_cost (map function_view c.args.functions.now) c.args.weights.now (block_view c.args.body.now) in
    let n = c.args.bound in
    let a : c.plus.result ≡ capped (6 + capped (n * capped (capped (10 + capped x) + capped y))) = cc in
    a ∙ capped_while n x y
