-- What holds of each element of a list, and of each two.
use Rattle.std.proofs.Common.{◌≡◌, ℕ, suc, Bool, true, false, true≢false, ◌==◌, List, [], ◌∷◌, ◌++◌, map, Some, cond, refl, ap, sym, subst, ◌∙◌, inl, inr, arith}
use Rattle.std.specs.Prelude.{◌⊎◌, ◌||◌, flat_map, filter, find}
use Rattle.std.specs.List.{All, AllPairs, list_any}
use Rattle.std.proofs.lemmas.Option.{same_Some}
use Rattle.std.proofs.lemmas.List.Elements.{All-nil, All-cons}
use Rattle.std.proofs.lemmas.List.Kept.{AllPairs-cons}

abbrev pub Each : {A : Type 0} → (A → Type 0) → List A → Type 0
Each P [] = Unit {0}
Each P (x ∷ xs) = P x × Each P xs

-- each with the later ones
abbrev pub Pairs : {A : Type 0} → (A → A → Type 0) → List A → Type 0
Pairs R [] = Unit {0}
Pairs R (x ∷ xs) = Each (R x) xs × Pairs R xs

module _ {A : Type 0} where
  pub each_weaker : (P Q : A → Type 0) → ((x : A) → P x → Q x) → (xs : List A) → Each P xs → Each Q xs
  each_weaker P Q f [] h = tt
  each_weaker P Q f (x ∷ xs) h = (f x h.0, each_weaker P Q f xs h.1)

  pub each_both : (P Q : A → Type 0) (xs : List A) → Each P xs → Each Q xs → Each (λ x. P x × Q x) xs
  each_both P Q [] h g = tt
  each_both P Q (x ∷ xs) h g = ((h.0, g.0), each_both P Q xs h.1 g.1)

  pub each_always : (P : A → Type 0) → ((x : A) → P x) → (xs : List A) → Each P xs
  each_always P f [] = tt
  each_always P f (x ∷ xs) = (f x, each_always P f xs)

  pub each_append : (P : A → Type 0) (xs ys : List A) → Each P xs → Each P ys → Each P (xs ++ ys)
  each_append P [] ys h g = g
  each_append P (x ∷ xs) ys h g = (h.0, each_append P xs ys h.1 g)

  pub each_left : (P : A → Type 0) (xs ys : List A) → Each P (xs ++ ys) → Each P xs
  each_left P [] ys h = tt
  each_left P (x ∷ xs) ys h = (h.0, each_left P xs ys h.1)

  pub each_right : (P : A → Type 0) (xs ys : List A) → Each P (xs ++ ys) → Each P ys
  each_right P [] ys h = h
  each_right P (x ∷ xs) ys h = each_right P xs ys h.1

  pub each_cond : (P : A → Type 0) (b : Bool) (xs ys : List A) → (b ≡ true → Each P xs) → (b ≡ false → Each P ys) → Each P (cond b xs ys)
  each_cond P true xs ys f g = f refl
  each_cond P false xs ys f g = g refl

  pub each_filter : (P : A → Type 0) (t : A → Bool) (xs : List A) → Each P xs → Each P (filter t xs)
  each_filter P t [] h = tt
  each_filter P t (x ∷ xs) h = each_cond P (t x) (x ∷ filter t xs) (filter t xs) (λ e. (h.0, each_filter P t xs h.1)) (λ e. each_filter P t xs h.1)

  pub each_passes : (t : A → Bool) (xs : List A) → Each (λ x. t x ≡ true) (filter t xs)
  each_passes t [] = tt
  each_passes t (x ∷ xs) = each_cond (λ y. t y ≡ true) (t x) (x ∷ filter t xs) (filter t xs) (λ e. (e, each_passes t xs)) (λ e. each_passes t xs)

  pub pairs_filter : (R : A → A → Type 0) (t : A → Bool) (xs : List A) → Pairs R xs → Pairs R (filter t xs)
  pairs_filter R t [] h = tt
  pairs_filter R t (x ∷ xs) h = by_test (t x) (pairs_filter R t xs h.1)
    where
      by_test : (b : Bool) → Pairs R (filter t xs) → Pairs R (cond b (x ∷ filter t xs) (filter t xs))
      by_test true rest = (each_filter (R x) t xs h.0, rest)
      by_test false rest = rest

  -- what is found
  pub each_find : (P : A → Type 0) (t : A → Bool) (xs : List A) (x : A) → find t xs ≡ Some x → Each P xs → (t x ≡ true) × P x
  each_find P t [] x e h = cc
  each_find P t (y ∷ xs) x e h = by_test (t y) refl e (λ f. each_find P t xs x f h.1)
    where
      by_test : (b : Bool) → t y ≡ b → cond b (Some y) (find t xs) ≡ Some x → (find t xs ≡ Some x → (t x ≡ true) × P x) → (t x ≡ true) × P x
      by_test true is f rest = let same : y ≡ x = same_Some y x f in (sym (ap t same) ∙ is, subst P same h.0)
      by_test false is f rest = rest f

  -- what passes a test is one of them
  pub each_any : (P : A → Type 0) (t : A → Bool) (Q : Type 0) (xs : List A) → list_any t xs ≡ true → Each P xs → ((x : A) → P x → t x ≡ true → Q) → Q
  each_any P t Q [] e h f = absurd (true≢false (sym e))
  each_any P t Q (x ∷ xs) e h f = by_test (t x) refl e (λ g. each_any P t Q xs g h.1 f)
    where
      by_test : (b : Bool) → t x ≡ b → (b || list_any t xs) ≡ true → (list_any t xs ≡ true → Q) → Q
      by_test true is g rest = f x h.0 is
      by_test false is g rest = rest g

  pub each_none : (t : A → Bool) (xs : List A) → list_any t xs ≡ false → Each (λ x. t x ≡ false) xs
  each_none t [] e = tt
  each_none t (x ∷ xs) e = by_test (t x) refl e (each_none t xs)
    where
      by_test : (b : Bool) → t x ≡ b → (b || list_any t xs) ≡ false → (list_any t xs ≡ false → Each (λ y. t y ≡ false) xs) → (t x ≡ false) × Each (λ y. t y ≡ false) xs
      by_test true is g rest = absurd (true≢false g)
      by_test false is g rest = (is, rest g)

  pub find_append : (t : A → Bool) (xs ys : List A) (x : A) → find t (xs ++ ys) ≡ Some x → (find t xs ≡ Some x) ⊎ (find t ys ≡ Some x)
  find_append t [] ys x e = inr e
  find_append t (y ∷ xs) ys x e = by_test (t y) e (find_append t xs ys x)
    where
      by_test : (b : Bool) → cond b (Some y) (find t (xs ++ ys)) ≡ Some x → (find t (xs ++ ys) ≡ Some x → (find t xs ≡ Some x) ⊎ (find t ys ≡ Some x))
          → (cond b (Some y) (find t xs) ≡ Some x) ⊎ (find t ys ≡ Some x)
      by_test true f rest = inl f
      by_test false f rest = rest f

  -- ---- as said by index

  pub all_each : (P : A → Type 0) (xs : List A) → All P xs → Each P xs
  all_each P [] h = tt
  all_each P (x ∷ xs) h = (h 0 x (omega arith), all_each P xs (λ j d l. h (suc j) d (omega (arith, l))))

  pub each_all : (P : A → Type 0) (xs : List A) → Each P xs → All P xs
  each_all P [] h = All-nil P
  each_all P (x ∷ xs) h = All-cons P x xs h.0 (each_all P xs h.1)

  pub pairs_all : (R : A → A → Type 0) (xs : List A) → Pairs R xs → AllPairs R xs
  pairs_all R [] h = λ i j d l m. absurd (omega (arith, m))
  pairs_all R (x ∷ xs) h = AllPairs-cons R x xs (each_all (R x) xs h.0) (pairs_all R xs h.1)

module _ {A B : Type 0} where
  pub each_flat_map : (P : A → Type 0) (Q : B → Type 0) (f : A → List B) → ((x : A) → P x → Each Q (f x)) → (xs : List A) → Each P xs → Each Q (flat_map f xs)
  each_flat_map P Q f g [] h = tt
  each_flat_map P Q f g (x ∷ xs) h = each_append Q (f x) (flat_map f xs) (g x h.0) (each_flat_map P Q f g xs h.1)

  pub each_mapped : (P : A → Type 0) (Q : B → Type 0) (f : A → B) → ((x : A) → P x → Q (f x)) → (xs : List A) → Each P xs → Each Q (map f xs)
  each_mapped P Q f g [] h = tt
  each_mapped P Q f g (x ∷ xs) h = (g x h.0, each_mapped P Q f g xs h.1)

-- each number is among them
abbrev pub has : ℕ → List ℕ → Bool
has n ns = list_any (λ m. m == n) ns
