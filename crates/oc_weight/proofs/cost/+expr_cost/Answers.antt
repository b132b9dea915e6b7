use Rattle.std.proofs.Common.{◌≡◌, ap, sym, ◌∙◌}
use Rattle.oc_tree.specs.View.{expr_view}
use Rattle.oc_tree.specs.Weight.{expr_cost, binary_cost}
use Rattle.oc_weight.specs.Capped.{capped}
use Rattle.oc_weight.proofs.CappedLaws.{cost_capped}
use Rattle.oc_weight.proofs.ExprViews.{binary_seen}
use Rattle.oc_weight.proofs.cost.+expr_cost.Goals as goal

pub returns-in-Binary-clause-cost : goal.returns-in-Binary-clause-cost
returns-in-Binary-clause-cost t c =
    let op = c.in-Binary.op in
    let x = expr_cost (expr_view c.in-Binary.left.value) in
    let y = expr_cost (expr_view c.in-Binary.right.value) in
    let k : expr_cost (expr_view c.args.expr.now) ≡ binary_cost op x y = ap (λ d. expr_cost (expr_view d)) c.in-Binary.is
    ∙ ap expr_cost (binary_seen op c.in-Binary.left c.in-Binary.right) in
    let p = ap (λ d. capped (expr_cost (expr_view d))) c.deref-in-Binary.ensures in
    let q = ap (λ d. capped (expr_cost (expr_view d))) c.deref-in-Binary-2.ensures in
    let e = c.expr_cost-in-Binary.ensures.cost in
    let f = c.expr_cost-in-Binary-2.ensures.cost in
    let a : c.binary_cost.result ≡ capped (binary_cost op (capped x) (capped y)) = cc in
    a ∙ cost_capped op x y ∙ ap capped (sym k)
