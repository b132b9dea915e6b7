-- What stands in lists.
use Rattle.std.proofs.Common.{◌≡◌, ◌<◌, ◌≤◌, ℕ, zero, suc, ◌+◌, Bool, true, ◌==◌, List, [], ◌∷◌, refl, ap, sym, ◌∙◌, subst, inl, inr, arith}
use Rattle.std.specs.List.{list_all}
use Rattle.std.proofs.lemmas.Bool.{eqb-true, eq-eqb, and_parts, and_from, cases_lt}
use Rattle.oc_tree.specs.Members.{IsOf, is_number_of}
use Rattle.oc_flow.specs.Variables.{from}
use Rattle.oc_needs.proofs.Tests.{any_of, of_any}
use Rattle.oc_region.proofs.Elements.{Each}

pub of_all : {A : Type 0} (t : A → Bool) (x : A) (xs : List A) → list_all t xs ≡ true → IsOf x xs → t x ≡ true
of_all t x [] e h = absurd h
of_all t x (y ∷ ys) e (inl s) = ap t s ∙ (and_parts (t y) (list_all t ys) e).0
of_all t x (y ∷ ys) e (inr i) = of_all t x ys (and_parts (t y) (list_all t ys) e).1 i

pub all_of : {A : Type 0} (t : A → Bool) (xs : List A) → ((x : A) → IsOf x xs → t x ≡ true) → list_all t xs ≡ true
all_of t [] h = refl
all_of t (x ∷ xs) h = and_from (t x) (list_all t xs) (h x (inl refl)) (all_of t xs (λ y i. h y (inr i)))

pub each_of : {A : Type 0} (P : A → Type 0) (x : A) (xs : List A) → Each P xs → IsOf x xs → P x
each_of P x [] e h = absurd h
each_of P x (y ∷ ys) e (inl s) = subst P (sym s) e.0
each_of P x (y ∷ ys) e (inr i) = each_of P x ys e.1 i

-- one of these numbers, by the test
pub among_of : (n : ℕ) (xs : List ℕ) → is_number_of xs n ≡ true → IsOf n xs
among_of n xs e = let a = any_of (λ x. x == n) xs e in subst (λ m. IsOf m xs) (eqb-true a.0 n a.2) a.1

pub of_among : (n : ℕ) (xs : List ℕ) → IsOf n xs → is_number_of xs n ≡ true
of_among n xs o = of_any (λ x. x == n) n xs o (eq-eqb n n refl)

-- ---- numbers from one on

pub in_from : (g i n : ℕ) → i ≤ g → g < i + n → IsOf g (from i n)
in_from g i zero l k = absurd (omega (arith, l, k))
in_from g i (suc n) l k = elim (cases_lt i g) [ inl h ↦ inr (in_from g (i + 1) n (omega (arith, h)) (omega (arith, k))) | inr h ↦ inl (omega (arith, l, h)) ]

pub from_below : (g i n : ℕ) → IsOf g (from i n) → g < i + n
from_below g i zero o = absurd o
from_below g i (suc n) (inl e) = omega (arith, e)
from_below g i (suc n) (inr o) = let r = from_below g (i + 1) n o in omega (arith, r)
