-- Tests over lists.
use Rattle.std.proofs.Common.{◌≡◌, refl, sym, ap, ◌∙◌, subst, Bool, true, false, true≢false, inl, inr, List, [], ◌∷◌, cond}
use Rattle.std.specs.Prelude.{◌&&◌, ◌||◌, filter, flat_map}
use Rattle.std.specs.List.{list_any}
use Rattle.std.proofs.lemmas.List.Folds.{list_any-append}
use Rattle.oc_tree.specs.Members.{IsOf}

pub bool_same : (a b : Bool) → (a ≡ true → b ≡ true) → (b ≡ true → a ≡ true) → a ≡ b
bool_same true true f g = refl
bool_same true false f g = sym (f refl)
bool_same false true f g = g refl
bool_same false false f g = refl

pub or_case : {C : Type 0} (a b : Bool) → a || b ≡ true → (a ≡ true → C) → (b ≡ true → C) → C
or_case true b h f g = f refl
or_case false b h f g = g h

pub or_same : (a b c d : Bool) → a ≡ b → c ≡ d → a || c ≡ b || d
or_same a b c d e f = ap (λ x. x || c) e ∙ ap (λ y. b || y) f

pub any_same : {A : Type 0} (f g : A → Bool) (xs : List A) → ((x : A) → f x ≡ g x) → list_any f xs ≡ list_any g xs
any_same f g [] h = refl
any_same f g (x ∷ xs) h = or_same (f x) (g x) (list_any f xs) (list_any g xs) (h x) (any_same f g xs h)

pub any_none : {A : Type 0} (f : A → Bool) (xs : List A) → ((x : A) → f x ≡ false) → list_any f xs ≡ false
any_none f [] h = refl
any_none f (x ∷ xs) h = or_same (f x) false (list_any f xs) false (h x) (any_none f xs h)

pub any_flat_map : {A B : Type 0} (f : B → Bool) (h : A → List B) (xs : List A) → list_any f (flat_map h xs) ≡ list_any (λ a. list_any f (h a)) xs
any_flat_map f h [] = refl
any_flat_map f h (x ∷ xs) = list_any-append f (h x) (flat_map h xs) ∙ ap (λ b. list_any f (h x) || b) (any_flat_map f h xs)

any_filter_head : {A : Type 0} (f : A → Bool) (x : A) (rest : List A) (t r : Bool) → list_any f rest ≡ r → list_any f (cond t (x ∷ rest) rest) ≡ (t && f x) || r
any_filter_head f x rest true r e = ap (λ b. f x || b) e
any_filter_head f x rest false r e = e

pub any_filter : {A : Type 0} (f t : A → Bool) (xs : List A) → list_any f (filter t xs) ≡ list_any (λ y. t y && f y) xs
any_filter f t [] = refl
any_filter f t (x ∷ xs) = any_filter_head f x (filter t xs) (t x) (list_any (λ y. t y && f y) xs) (any_filter f t xs)

pub filter_same : {A : Type 0} (f g : A → Bool) (xs : List A) → ((x : A) → f x ≡ g x) → filter f xs ≡ filter g xs
filter_same f g [] h = refl
filter_same f g (x ∷ xs) h = ap (λ b. cond b (x ∷ filter f xs) (filter f xs)) (h x) ∙ ap (λ r. cond (g x) (x ∷ r) r) (filter_same f g xs h)

pub filter_none : {A : Type 0} (f : A → Bool) (xs : List A) → ((x : A) → f x ≡ false) → filter f xs ≡ []
filter_none f [] h = refl
filter_none f (x ∷ xs) h = ap (λ b. cond b (x ∷ filter f xs) (filter f xs)) (h x) ∙ filter_none f xs h

-- ---- members

pub any_of : {A : Type 0} (f : A → Bool) (xs : List A) → list_any f xs ≡ true → (x : A) × IsOf x xs × (f x ≡ true)
any_of f [] h = absurd (true≢false (sym h))
any_of {A} f (x ∷ xs) h = or_case (f x) (list_any f xs) h (λ e. (x, inl refl, e)) (λ e. let r = any_of f xs e in (r.0, inr r.1, r.2))

pub of_any : {A : Type 0} (f : A → Bool) (x : A) (xs : List A) → IsOf x xs → f x ≡ true → list_any f xs ≡ true
of_any f x [] h e = absurd h
of_any f x (y ∷ ys) (inl i) e = ap (λ b. b || list_any f ys) (subst (λ z. f z ≡ true) i e)
of_any f x (y ∷ ys) (inr h) e = any_behind (f y) (list_any f ys) (of_any f x ys h e)
  where
    any_behind : (a b : Bool) → b ≡ true → a || b ≡ true
    any_behind true b h = refl
    any_behind false b h = h

into_head : {A : Type 0} (y x : A) (t : Bool) (rest : List A) → x ≡ y → t ≡ true → IsOf x (cond t (y ∷ rest) rest)
into_head y x true rest e h = inl e
into_head y x false rest e h = absurd (true≢false (sym h))

into_tail : {A : Type 0} (y x : A) (t : Bool) (rest : List A) → IsOf x rest → IsOf x (cond t (y ∷ rest) rest)
into_tail y x true rest h = inr h
into_tail y x false rest h = h

pub in_filter : {A : Type 0} (f : A → Bool) (x : A) (xs : List A) → IsOf x xs → f x ≡ true → IsOf x (filter f xs)
in_filter f x [] h e = h
in_filter f x (y ∷ ys) (inl i) e = into_head y x (f y) (filter f ys) i (subst (λ z. f z ≡ true) i e)
in_filter f x (y ∷ ys) (inr h) e = into_tail y x (f y) (filter f ys) (in_filter f x ys h e)

out_head : {A : Type 0} (f : A → Bool) (x y : A) (t : Bool) (rest : List A) → f y ≡ t → (IsOf x rest → f x ≡ true) → IsOf x (cond t (y ∷ rest) rest) → f x ≡ true
out_head f x y true rest i g (inl e) = subst (λ z. f z ≡ true) (sym e) i
out_head f x y true rest i g (inr h) = g h
out_head f x y false rest i g h = g h

pub of_filter : {A : Type 0} (f : A → Bool) (x : A) (xs : List A) → IsOf x (filter f xs) → f x ≡ true
of_filter f x [] h = absurd h
of_filter f x (y ∷ ys) h = out_head f x y (f y) (filter f ys) refl (of_filter f x ys) h

-- tests that keep the same members say the same of them
pub filter_tells : {A : Type 0} (f g : A → Bool) (x : A) (xs : List A) → (f x ≡ true → IsOf x xs) → filter f xs ≡ filter g xs → f x ≡ true → g x ≡ true
filter_tells f g x xs h e t = of_filter g x xs (subst (λ ys. IsOf x ys) e (in_filter f x xs (h t) t))
