-- Rows that are the same.
use Rattle.std.proofs.Common.{◌≡◌, refl, sym, ap, ◌∙◌, ℕ, zero, suc, ◌+◌, ◌<◌, ◌≤◌, arith, true, false, true≢false, nat_le, List, [], ◌∷◌, length, drop}
use Rattle.std.proofs.Math.ListN.{get_or}
use Rattle.std.proofs.lemmas.Bool.{eqb-true}
use Rattle.std.proofs.lemmas.List.{drop_more, drop_all}
use Rattle.oc_tree.specs.declared.tree.VarId.{VarId}
use Rattle.oc_tree.specs.declared.tree.VarId.TheVariants.{Nv, Param, Declared, Returned}
use Rattle.oc_flow.specs.Variables.{same_variable}
use Rattle.oc_needs.specs.Code.{same_row}

pub longer : (ls rs : List VarId) (i : ℕ) → i < length ls → length rs ≤ i → same_row (drop i ls) (drop i rs) ≡ false
longer ls rs i h k =
    ap (λ xs. same_row xs (drop i rs)) (drop_more ls i Returned h) ∙ ap (λ ys. same_row (get_or ls i Returned ∷ drop (i + 1) ls) ys) (drop_all i rs k)

rest_same : (n : ℕ) (rs : List VarId) → same_row [] (drop n rs) ≡ nat_le (length rs) n
rest_same zero [] = grind arith
rest_same (suc n) [] = grind arith
rest_same zero (r ∷ rs) = grind arith
rest_same (suc n) (r ∷ rs) = rest_same n rs ∙ (grind arith)

pub ended : (ls rs : List VarId) (i : ℕ) → length ls ≤ i → i ≤ length ls → same_row (drop i ls) (drop i rs) ≡ nat_le (length rs) (length ls)
ended ls rs i h k =
    let e : i ≡ length ls = omega arith in
    ap (λ xs. same_row xs (drop i rs)) (drop_all i ls h) ∙ (rest_same i rs ∙ ap (λ n. nat_le (length rs) n) e)

pub same_variable_is : (v w : VarId) → same_variable v w ≡ true → v ≡ w
same_variable_is (Nv i) (Nv j) e = ap Nv (eqb-true i j e)
same_variable_is (Nv i) (Param j) e = absurd (true≢false (sym e))
same_variable_is (Nv i) (Declared j) e = absurd (true≢false (sym e))
same_variable_is (Nv i) Returned e = absurd (true≢false (sym e))
same_variable_is (Param i) (Nv j) e = absurd (true≢false (sym e))
same_variable_is (Param i) (Param j) e = ap Param (eqb-true i j e)
same_variable_is (Param i) (Declared j) e = absurd (true≢false (sym e))
same_variable_is (Param i) Returned e = absurd (true≢false (sym e))
same_variable_is (Declared i) (Nv j) e = absurd (true≢false (sym e))
same_variable_is (Declared i) (Param j) e = absurd (true≢false (sym e))
same_variable_is (Declared i) (Declared j) e = ap Declared (eqb-true i j e)
same_variable_is (Declared i) Returned e = absurd (true≢false (sym e))
same_variable_is Returned (Nv j) e = absurd (true≢false (sym e))
same_variable_is Returned (Param j) e = absurd (true≢false (sym e))
same_variable_is Returned (Declared j) e = absurd (true≢false (sym e))
same_variable_is Returned Returned e = refl
