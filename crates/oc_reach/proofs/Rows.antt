-- The rows of what is linked to each number.
use Rattle.std.proofs.Common.{◌≡◌, ◌<◌, ◌++◌, ℕ, zero, suc, Bool, true, false, List, [], ◌∷◌, nat_eq, length, refl, sym, ap, ◌∙◌, arith, subst, Vec, Global}
use Rattle.std.specs.Prelude.{◌&&◌, ◌||◌}
use Rattle.std.specs.List.{list_any}
use Rattle.std.proofs.Math.ListN.{get_or, set}
use Rattle.std.proofs.lemmas.List.{get_or-set_same, get_or-set_other}
use Rattle.std.proofs.lemmas.Bool.{eq-eqb, and_from, or_left, or_right}
use Rattle.std.proofs.lemmas.Bool.Decides.{eqb_tells, nat_tests}
use Rattle.std.proofs.Math.Bool.{or_assoc}
use mathlib.Core.Logic.{inl, inr}
use Rattle.oc_tree.specs.Reach.{Links, linked, is_link}
use Rattle.oc_reach.specs.Marked.{is_in, rows}
use Rattle.oc_reach.proofs.Bools.{or_false}
use Rattle.oc_reach.proofs.Lists.{is_in_push}

pub rows_at : (r : List (Vec ℕ Global)) (u : ℕ) (d : Vec ℕ Global) → u < length r → get_or (rows r) u [] ≡ (get_or r u d).items
rows_at [] u d h = absurd (omega arith)
rows_at (v ∷ r) zero d h = refl
rows_at (v ∷ r) (suc u) d h = rows_at r u d (omega arith)

pub rows_length : (r : List (Vec ℕ Global)) → length (rows r) ≡ length r
rows_length [] = refl
rows_length (v ∷ r) = ap suc (rows_length r)

pub rows_set : (r : List (Vec ℕ Global)) (v : ℕ) (w : Vec ℕ Global) → rows (set r v w) ≡ set (rows r) v w.items
rows_set [] v w = refl
rows_set (x ∷ r) zero w = refl
rows_set (x ∷ r) (suc v) w = ap (λ l. x.items ∷ l) (rows_set r v w)

-- a row as code reads it
pub row_is : (r : List (Vec ℕ Global)) (n : ℕ) (row : List ℕ) (w : Vec ℕ Global) → n < length r → w ≡ get_or r n w → row ≡ w.items → row ≡ get_or (rows r) n []
row_is r n row w h e f = f ∙ ap (λ v. v.items) e ∙ sym (rows_at r n w h)

-- a link of the list
pub link_at : (links : Links) (i : ℕ) → i < length links → linked links (get_or links i (0, 0)).0 (get_or links i (0, 0)).1 ≡ true
link_at [] i h = absurd (omega arith)
link_at (l ∷ links) zero h = or_left _ _ (and_from (nat_eq l.0 l.0) (nat_eq l.1 l.1) (eq-eqb l.0 l.0 refl) (eq-eqb l.1 l.1 refl))
link_at (l ∷ links) (suc i) h = or_right (is_link (get_or links i (0, 0)).0 (get_or links i (0, 0)).1 l) _ (link_at links i (omega arith))

any_push : {A : Type 0} (test : A → Bool) (xs : List A) (x : A) → list_any test (xs ++ x ∷ []) ≡ list_any test xs || test x
any_push test [] x = or_false (test x) false refl
any_push test (y ∷ xs) x = ap (λ b. test y || b) (any_push test xs x) ∙ sym (or_assoc (test y) (list_any test xs) (test x))

-- one more link, in the row of the number that it leads to
pub link_more : (rs : List (List ℕ)) (done : Links) (a b : ℕ) (row : List ℕ)
    → b < length rs
    → row ≡ get_or rs b [] ++ a ∷ []
    → ((u v : ℕ) → is_in (get_or rs v []) u ≡ linked done u v)
    → (u v : ℕ) → is_in (get_or (set rs b row) v []) u ≡ linked (done ++ (a, b) ∷ []) u v
link_more rs done a b row h e inv u v =
    let p = any_push (is_link u v) done (a, b) in
    elim (eqb_tells v b) [
      | inl q ↦
          let s : get_or (set rs b row) v [] ≡ get_or rs v [] ++ a ∷ [] = subst (λ x. get_or (set rs b row) x [] ≡ get_or rs x [] ++ a ∷ []) (sym q.1) (get_or-set_same rs b row [] h ∙ e) in
          let t : nat_eq b v ≡ true = eq-eqb b v (sym q.1) in
          let w : nat_eq a u ≡ nat_eq a u && nat_eq b v = both (nat_eq a u) (nat_eq b v) t in
          ap (λ l. is_in l u) s ∙ is_in_push (get_or rs v []) a u ∙ ap (λ x. x || nat_eq a u) (inv u v) ∙ ap (λ x. linked done u v || x) w ∙ sym p
      | inr q ↦
          let s : get_or (set rs b row) v [] ≡ get_or rs v [] = get_or-set_other rs b v row [] q.1 in
          let t : nat_eq b v ≡ false = grind (arith, nat_tests) in
          ap (λ l. is_in l u) s ∙ inv u v ∙ sym (p ∙ or_false (linked done u v) (nat_eq a u && nat_eq b v) (neither (nat_eq a u) (nat_eq b v) t))
    ]
  where
    both : (x y : Bool) → y ≡ true → x ≡ x && y
    both true y k = sym k
    both false y k = refl

    neither : (x y : Bool) → y ≡ false → x && y ≡ false
    neither true y k = k
    neither false y k = refl
