use Rattle.std.proofs.Common.{rules, ◌≡◌, ◌+◌, ◌∷◌, ◌++◌, length, ap, sym, ◌∙◌, arith, length-append}
use Rattle.std.specs.Prelude.{slice_set, pos}
use Rattle.oc_tree.specs.Tree.{TArg, TExpr, TCall, binary}
use Rattle.oc_tree.specs.View.{expr_view, arg_step, expr_step, call_step}
use Rattle.oc_tree.specs.declared.tree.Expr.{fold-roll-Expr}
use Rattle.oc_tree.specs.declared.tree.Arg.TheOpen.{Expr-F}
use Rattle.oc_tree.specs.declared.tree.Expr as X
use denote.Hole.Carrier
use Rattle.oc_isa.specs.declared.instr.Instr.TheVariants.{Push, Jump, Jfalse}
use Rattle.oc_code.specs.Forms.{placed, one, and_code, or_code, expr_code}
use Rattle.oc_codegen.specs.Ops.{sides_of}
use Rattle.oc_codegen.specs.declared.exprs.Sides.TheVariants.{FirstTrue, FirstFalse}
use Rattle.oc_codegen.proofs.Sides.{and_sides, or_sides}
use Rattle.oc_codegen.proofs.Patches.{and_filled, or_filled, on_ok}
use Rattle.oc_codegen.proofs.exprs.+expr.Goals as goal

pub returns-in_ok-expr-in-FirstTrue : goal.returns-in_ok-expr-in-FirstTrue
unfolding X.roll-Expr denote.Hole.Carrier.roll
returns-in_ok-expr-in-FirstTrue t c =
    let n = c.args.n in
    let γ = c.args.scope.now in
    let base = c.args.code.now in
    let p = length base in
    let op = c.in-Binary.op in
    let l = expr_view c.in-Binary.left.value in
    let r = expr_view c.in-Binary.right.value in
    let a = expr_code n γ p l in
    let c1 = c.expr-in-Binary.new.code in
    let c2 = c.open.new.self in
    let b = expr_code n γ (length c2) r in
    let view : expr_view c.args.expression.now ≡ binary op l r = ap expr_view c.in-Binary.is
    ∙ fold-roll-Expr TArg TExpr TCall arg_step expr_step call_step (Expr-F.Binary op c.in-Binary.left c.in-Binary.right) in
    let left : c1 ≡ base ++ a = c.in_ok-expr-in-Binary.ensures ∙ ap (λ e. base ++ expr_code n γ p (expr_view e)) c.deref-in-Binary.ensures in
    let right : c.expr-in-FirstTrue.new.code ≡ c2 ++ b = c.in_ok-expr-in-FirstTrue.ensures ∙ ap (λ e. c2 ++ expr_code n γ (length c2) (expr_view e)) c.deref-in-FirstTrue.ensures in
    let behind : length c2 ≡ p + length a + 1 = omega (arith, ap length c.in_ok-test-in-FirstTrue.ensures.code, ap length left, length-append base a, length-append c1 (one n (Jfalse 0))) in
    let sides : sides_of op ≡ FirstTrue = search rules in
    let whole : and_code n p a b ≡ expr_code n γ p (expr_view c.args.expression.now) =
    ap (λ q. and_code n p a (expr_code n γ q r)) behind ∙ sym (ap (expr_code n γ p) view ∙ and_sides n p op a (λ q. expr_code n γ q r) sides) in
    on_ok c.close_and.result (λ h. and_filled n base a b c1 c2 c.expr-in-FirstTrue.new.code c.close_and.new.code (placed n (Jfalse 0)) c.in_ok-test-in-FirstTrue.test left
    c.in_ok-test-in-FirstTrue.ensures.code c.in_ok-test-in-FirstTrue.ensures.address right h ∙ ap (λ m. base ++ m) whole) c.close_and.ensures

pub returns-in_ok-expr-in-FirstFalse : goal.returns-in_ok-expr-in-FirstFalse
unfolding X.roll-Expr denote.Hole.Carrier.roll
returns-in_ok-expr-in-FirstFalse t c =
    let n = c.args.n in
    let γ = c.args.scope.now in
    let base = c.args.code.now in
    let p = length base in
    let op = c.in-Binary.op in
    let l = expr_view c.in-Binary.left.value in
    let r = expr_view c.in-Binary.right.value in
    let a = expr_code n γ p l in
    let c1 = c.expr-in-Binary.new.code in
    let c2 = c.open_or.new.code in
    let c3 = c.expr-in-FirstFalse.new.code in
    let b = expr_code n γ (length c2) r in
    let view : expr_view c.args.expression.now ≡ binary op l r = ap expr_view c.in-Binary.is
    ∙ fold-roll-Expr TArg TExpr TCall arg_step expr_step call_step (Expr-F.Binary op c.in-Binary.left c.in-Binary.right) in
    let left : c1 ≡ base ++ a = c.in_ok-expr-in-Binary.ensures ∙ ap (λ e. base ++ expr_code n γ p (expr_view e)) c.deref-in-Binary.ensures in
    let right : c3 ≡ c2 ++ b = c.in_ok-expr-in-FirstFalse.ensures ∙ ap (λ e. c2 ++ expr_code n γ (length c2) (expr_view e)) c.deref-in-FirstFalse.ensures in
    let behind : length c2 ≡ p + length a + 3 =
    omega (
      arith,
      ap length c.in_ok-jump-in-FirstFalse.ensures.code,
      ap length left,
      length-append base a,
      length-append c1
          (placed n (Jfalse (length c1 + 3)) ∷ placed n (Push (pos 1)) ∷ one n (Jump 0)),
    ) in
    let sides : sides_of op ≡ FirstFalse = search rules in
    let whole : or_code n p a b ≡ expr_code n γ p (expr_view c.args.expression.now) =
    ap (λ q. or_code n p a (expr_code n γ q r)) behind ∙ sym (ap (expr_code n γ p) view ∙ or_sides n p op a (λ q. expr_code n γ q r) sides) in
    let set = c.set.ensures ∙ ap (λ m. slice_set c3 c.in_ok-jump-in-FirstFalse.jump (placed n (Jump m))) c.address-end.ensures.address in
    or_filled n base a b c1 c2 c3 c.set.new.self (placed n (Jump 0)) c.in_ok-jump-in-FirstFalse.jump left c.in_ok-jump-in-FirstFalse.ensures.code
    c.in_ok-jump-in-FirstFalse.ensures.jump right set ∙ ap (λ m. base ++ m) whole
