use Rattle.std.proofs.Common.{◌≡◌, ◌+◌, ◌++◌, ◌∷◌, length, drop, ap, sym, ◌∙◌, arith, length-append}
use Rattle.std.proofs.lemmas.Grind.{common_steps}
use Rattle.oc_tree.specs.View.{arg_view, args_view}
use Rattle.oc_code.specs.Forms.{arg_code, args_code}
use Rattle.oc_codegen.proofs.exprs.args.Goals as goal

pub arg-requires : goal.arg-requires
arg-requires c =
    let n = c.args.n in
    let γ = c.args.scope.now in
    let code = c.loop-next.code in
    let a = c.next-item.result in
    let xs = c.args.args.now in
    let i = c.loop-next.next-index in
    let rest = drop (i + 1) xs in
    let e : drop i xs ≡ a ∷ rest = grind (arith, common_steps) in
    let one = arg_code n γ (length code) (arg_view a) in
    let left = args_code n γ (length code + length one) (args_view rest) in
    let whole = args_code n γ (length c.args.code.now) (args_view xs) in
    let split : code ++ (one ++ left) ≡ c.args.code.now ++ whole = ap (λ l. code ++ args_code n γ (length code) (args_view l)) (sym e) ∙ c.loop-next.invariant in
    omega (arith, ap length split, length-append code (one ++ left), length-append one left, length-append c.args.code.now whole, c.requires)
