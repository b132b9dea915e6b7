-- What is in a list, and what stands at a place of one.
use Rattle.std.proofs.Common.{◌≡◌, ◌<◌, ◌≤◌, ◌⊎◌, inl, inr, ℕ, zero, suc, ◌+◌, Bool, true, false, true≢false, List, [], ◌∷◌, ◌++◌, Some, cond, ◌==◌, length, map, refl, sym, ap, ◌∙◌, subst, arith}
use Rattle.std.specs.Prelude.{◌||◌, filter, flat_map, slice_get}
use Rattle.std.specs.List.{list_any}
use Rattle.std.proofs.Math.ListN.{get_or}
use Rattle.std.proofs.lemmas.Bool.{eqb-true, or_left, or_right}
use Rattle.std.proofs.lemmas.Option.{none-some, same_Some}
use Rattle.oc_tree.specs.Members.{IsOf}
use Rattle.oc_tree.specs.Numbers.{numbers_on}

-- ---- two lists, one behind the other

pub of_left : {A : Type 0} (x : A) (xs ys : List A) → IsOf x xs → IsOf x (xs ++ ys)
of_left x [] ys h = absurd h
of_left x (y ∷ xs) ys (inl e) = inl e
of_left x (y ∷ xs) ys (inr h) = inr (of_left x xs ys h)

pub of_right : {A : Type 0} (x : A) (xs ys : List A) → IsOf x ys → IsOf x (xs ++ ys)
of_right x [] ys h = h
of_right x (y ∷ xs) ys h = inr (of_right x xs ys h)

pub in_append : {A : Type 0} (x : A) (xs ys : List A) → IsOf x (xs ++ ys) → IsOf x xs ⊎ IsOf x ys
in_append x [] ys h = inr h
in_append x (y ∷ xs) ys (inl e) = inl (inl e)
in_append x (y ∷ xs) ys (inr h) = elim (in_append x xs ys h) [ inl l ↦ inl (inr l) | inr r ↦ inr r ]

-- ---- what is made of each element

pub in_image : {A B : Type 0} (f : A → B) (xs : List A) (x : A) → IsOf x xs → IsOf (f x) (map f xs)
in_image f [] x h = absurd h
in_image f (y ∷ ys) x (inl e) = inl (ap f e)
in_image f (y ∷ ys) x (inr h) = inr (in_image f ys x h)

pub image_of : {A B : Type 0} (f : A → B) (xs : List A) (y : B) → IsOf y (map f xs) → (x : A) × IsOf x xs × (y ≡ f x)
image_of f [] y i = absurd i
image_of f (x ∷ xs) y (inl e) = (x, inl refl, e)
image_of f (x ∷ xs) y (inr i) = let w = image_of f xs y i in (w.0, inr w.1, w.2)

pub in_flat : {A B : Type 0} (f : A → List B) (xs : List A) (x : A) (y : B) → IsOf x xs → IsOf y (f x) → IsOf y (flat_map f xs)
in_flat f [] x y h k = absurd h
in_flat f (z ∷ zs) x y (inl e) k = of_left y (f z) (flat_map f zs) (subst (λ w. IsOf y (f w)) e k)
in_flat f (z ∷ zs) x y (inr h) k = of_right y (f z) (flat_map f zs) (in_flat f zs x y h k)

-- ---- the elements that pass a test

pub in_filter : {A : Type 0} (t : A → Bool) (x : A) (xs : List A) → IsOf x xs → t x ≡ true → IsOf x (filter t xs)
in_filter t x [] h e = h
in_filter t x (y ∷ ys) h e = by_test (t y) refl h (λ i. in_filter t x ys i e)
  where
    by_test : (b : Bool) → t y ≡ b → IsOf x (y ∷ ys) → (IsOf x ys → IsOf x (filter t ys)) → IsOf x (cond b (y ∷ filter t ys) (filter t ys))
    by_test true is (inl s) rest = inl s
    by_test true is (inr i) rest = inr (rest i)
    by_test false is (inl s) rest = absurd (true≢false (sym e ∙ ap t s ∙ is))
    by_test false is (inr i) rest = rest i

pub of_filter : {A : Type 0} (t : A → Bool) (x : A) (xs : List A) → IsOf x (filter t xs) → IsOf x xs × (t x ≡ true)
of_filter t x [] h = absurd h
of_filter t x (y ∷ ys) h = by_test (t y) refl h (of_filter t x ys)
  where
    by_test : (b : Bool) → t y ≡ b → IsOf x (cond b (y ∷ filter t ys) (filter t ys)) → (IsOf x (filter t ys) → IsOf x ys × (t x ≡ true)) → IsOf x (y ∷ ys) × (t x ≡ true)
    by_test true is (inl s) rest = (inl s, ap t s ∙ is)
    by_test true is (inr i) rest = let r = rest i in (inr r.0, r.1)
    by_test false is i rest = let r = rest i in (inr r.0, r.1)

pub of_any : {A : Type 0} (t : A → Bool) (x : A) (xs : List A) → IsOf x xs → t x ≡ true → list_any t xs ≡ true
of_any t x [] h e = absurd h
of_any t x (y ∷ ys) (inl i) e = or_left (t y) (list_any t ys) (ap t (sym i) ∙ e)
of_any t x (y ∷ ys) (inr h) e = or_right (t y) (list_any t ys) (of_any t x ys h e)

pub any_of : {A : Type 0} (t : A → Bool) (xs : List A) → list_any t xs ≡ true → (x : A) × IsOf x xs × (t x ≡ true)
any_of t [] h = absurd (true≢false (sym h))
any_of {A} t (x ∷ xs) h = by_test (t x) refl h (any_of t xs)
  where
    by_test : (b : Bool) → t x ≡ b → b || list_any t xs ≡ true → (list_any t xs ≡ true → (y : A) × IsOf y xs × (t y ≡ true)) → (y : A) × IsOf y (x ∷ xs) × (t y ≡ true)
    by_test true is e rest = (x, inl refl, is)
    by_test false is e rest = let r = rest e in (r.0, inr r.1, r.2)

-- of numbers, one that is the same
pub number_of : (n : ℕ) (xs : List ℕ) → list_any (λ m. m == n) xs ≡ true → IsOf n xs
number_of n xs h = let r = any_of (λ m. m == n) xs h in subst (λ m. IsOf m xs) (eqb-true r.0 n r.2) r.1

-- ---- numbers one behind the other

pub not_lower : (k n y : ℕ) → IsOf y (numbers_on k n) → k ≤ y
not_lower k zero y h = absurd h
not_lower k (suc n) y (inl e) = omega (arith, e)
not_lower k (suc n) y (inr h) = let l = not_lower (suc k) n y h in omega (arith, l)

-- ---- places

-- before the end of a list there is an element
pub some_at : {A : Type 0} (xs : List A) (i : ℕ) → i < length xs → (x : A) × (slice_get xs i ≡ Some x)
some_at [] i h = absurd (omega (arith, h))
some_at (x ∷ xs) zero h = (x, refl)
some_at (x ∷ xs) (suc i) h = some_at xs i (omega (arith, h))

-- what is made of the element at a place
pub at_place : {A B : Type 0} (f : A → B) (xs : List A) (i : ℕ) (x : A) (d : B) → slice_get xs i ≡ Some x → get_or (map f xs) i d ≡ f x
at_place f [] i x d h = absurd (none-some x h)
at_place f (y ∷ xs) zero x d h = ap f (same_Some y x h)
at_place f (y ∷ xs) (suc i) x d h = at_place f xs i x d h
