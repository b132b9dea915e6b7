use Rattle.std.proofs.Common.{◌≡◌, ◌<◌, ℕ, zero, suc, false, List, [], ◌∷◌, length, map, ap, sym, arith}
use Rattle.std.specs.Prelude.{is_some}
use Rattle.std.proofs.Math.ListN.{get_or}
use Rattle.oc_tree.specs.View.{function_view}
use Rattle.oc_tree.specs.declared.tree.Function.{Function}
use Rattle.oc_tree.specs.Weight.{result_at}
use Rattle.oc_names.proofs.table.result_at.Goals as goal

-- whether a function has a result, as code reads it
result_read : (xs : List Function) (u : ℕ) (f : Function) → u < length xs → f ≡ get_or xs u f → get_or (map (λ g. is_some g.result) (map function_view xs)) u false ≡ is_some f.result
result_read [] u f h e = absurd (omega arith)
result_read (x ∷ xs) zero f h e = ap (λ g. is_some g.result) (sym e)
result_read (x ∷ xs) (suc u) f h e = result_read xs u f (omega (arith, h)) e

pub returns-then-place-functions : goal.returns-then-place-functions
returns-then-place-functions c =
    let xs = c.args.functions.now in
    let p = c.in-Some.place in
    let f = c.index-functions-place.result in
    let is : f ≡ get_or xs p f = c.index-functions-place.is in
    let e = result_read xs p f c.if-place-functions.true is in
    let a = ap (λ g. is_some g.result) is in
    let b = c.is_some.ensures in
    let d = ap (result_at (map function_view xs)) c.in-Some.is in
    cc
