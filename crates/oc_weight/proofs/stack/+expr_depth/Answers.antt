use Rattle.std.proofs.Common.{◌≡◌, ap, sym, ◌∙◌}
use Rattle.oc_tree.specs.View.{expr_view}
use Rattle.oc_tree.specs.Stack.{expr_depth, binary_depth}
use Rattle.oc_weight.specs.Capped.{capped}
use Rattle.oc_weight.proofs.CappedLaws.{depth_capped}
use Rattle.oc_weight.proofs.ExprViews.{binary_seen}
use Rattle.oc_weight.proofs.stack.+expr_depth.Goals as goal

pub returns-in-Binary-clause-depth : goal.returns-in-Binary-clause-depth
returns-in-Binary-clause-depth t c =
    let op = c.in-Binary.op in
    let x = expr_depth (expr_view c.in-Binary.left.value) in
    let y = expr_depth (expr_view c.in-Binary.right.value) in
    let k : expr_depth (expr_view c.args.expr.now) ≡ binary_depth op x y = ap (λ d. expr_depth (expr_view d)) c.in-Binary.is
    ∙ ap expr_depth (binary_seen op c.in-Binary.left c.in-Binary.right) in
    let p = ap (λ d. capped (expr_depth (expr_view d))) c.deref-in-Binary.ensures in
    let q = ap (λ d. capped (expr_depth (expr_view d))) c.deref-in-Binary-2.ensures in
    let e = c.expr_depth-in-Binary.ensures.depth in
    let f = c.expr_depth-in-Binary-2.ensures.depth in
    let a : c.binary_depth.result ≡ capped (binary_depth op (capped x) (capped y)) = cc in
    a ∙ depth_capped op x y ∙ ap capped (sym k)
