-- Lists of numbers in which each stands once, and places of lists.
use Rattle.std.proofs.Common.{◌≡◌, ◌<◌, ◌≤◌, ◌++◌, ℕ, zero, suc, Bool, true, false, List, [], ◌∷◌, Some, map, nat_eq, length, refl, sym, ap, ◌∙◌, true≢false, arith, subst, drop}
use Rattle.std.proofs.Math.Seq.{drop-cons}
use Rattle.std.specs.Prelude.{◌||◌, if◌then◌else◌, slice_get}
use Rattle.std.proofs.Math.ListN.{get_or, set, get_or-append}
use Rattle.std.proofs.lemmas.List.{get_or-set_same, get_or-set_other, length-append}
use Rattle.std.proofs.lemmas.Bool.{eqb-true, eq-eqb, or_left, or_right}
use Rattle.std.proofs.lemmas.Bool.Decides.{eqb_tells, nat_tests}
use Rattle.std.proofs.lemmas.Option.{none-some, same_Some}
use Rattle.std.proofs.Math.Bool.{or_assoc}
use mathlib.Core.Logic.{inl, inr}
use Rattle.oc_tree.proofs.ReachLaws.{or_elim}
use Rattle.oc_reach.specs.Marked.{is_in, add, add_all}
use Rattle.oc_reach.proofs.Bools.{or_false}

pub is_in_push : (xs : List ℕ) (v w : ℕ) → is_in (xs ++ v ∷ []) w ≡ is_in xs w || nat_eq v w
is_in_push [] v w = by (nat_eq v w)
  where
    by : (b : Bool) → b || false ≡ b
    by true = refl
    by false = refl
is_in_push (x ∷ xs) v w = by (nat_eq x w) (is_in_push xs v w)
  where
    by : (b : Bool) → is_in (xs ++ v ∷ []) w ≡ is_in xs w || nat_eq v w → b || is_in (xs ++ v ∷ []) w ≡ (b || is_in xs w) || nat_eq v w
    by true h = refl
    by false h = h

pub marked : (seen : List Bool) (order : List ℕ) (v : ℕ) → v < length seen → ((w : ℕ) → get_or seen w false ≡ is_in order w) → (w : ℕ) → get_or (set seen v true) w false ≡ is_in (order ++ v ∷ []) w
marked seen order v h inv w =
    let p = is_in_push order v w in
    elim (eqb_tells w v) [
      | inl e ↦ subst (λ x. get_or (set seen v true) x false ≡ is_in (order ++ v ∷ []) x) (sym e.1)
          (get_or-set_same seen v true false h ∙ sym (is_in_push order v v ∙ or_right (is_in order v) (nat_eq v v) (eq-eqb v v refl)))
      | inr n ↦
          let d : nat_eq v w ≡ false = grind (arith, nat_tests) in
          get_or-set_other seen v w true false n.1 ∙ inv w ∙ sym (p ∙ or_false (is_in order w) (nat_eq v w) d)
    ]

-- what is there with one more
pub in_add : (xs : List ℕ) (v w : ℕ) → is_in (add xs v) w ≡ is_in xs w || nat_eq v w
in_add xs v w = by (is_in xs v) refl
  where
    there : (c : Bool) → is_in xs v ≡ true → nat_eq v w ≡ c → is_in xs w ≡ is_in xs w || c
    there true h e = subst (λ x. is_in xs x ≡ true) (eqb-true v w e) h ∙ sym (or_right (is_in xs w) true refl)
    there false h e = sym (or_false (is_in xs w) false refl)

    by : (b : Bool) → is_in xs v ≡ b → is_in (if b then xs else xs ++ v ∷ []) w ≡ is_in xs w || nat_eq v w
    by true h = there (nat_eq v w) h refl
    by false h = is_in_push xs v w

-- what is there with more
pub in_all : (vs xs : List ℕ) (w : ℕ) → is_in (add_all xs vs) w ≡ is_in xs w || is_in vs w
in_all [] xs w = sym (or_false (is_in xs w) false refl)
in_all (v ∷ vs) xs w =
    in_all vs (add xs v) w
    ∙ ap (λ b. b || is_in vs w) (in_add xs v w)
    ∙ or_assoc (is_in xs w) (nat_eq v w) (is_in vs w)

at_add : (xs : List ℕ) (v j : ℕ) → j < length xs → get_or (add xs v) j 0 ≡ get_or xs j 0
at_add xs v j h = by (is_in xs v)
  where
    by : (b : Bool) → get_or (if b then xs else xs ++ v ∷ []) j 0 ≡ get_or xs j 0
    by true = refl
    by false = get_or-append xs (v ∷ []) 0 j h

length_add : (xs : List ℕ) (v : ℕ) → length xs ≤ length (add xs v)
length_add xs v = by (is_in xs v)
  where
    by : (b : Bool) → length xs ≤ length (if b then xs else xs ++ v ∷ [])
    by true = omega arith
    by false = omega (arith, length-append xs (v ∷ []))

pub length_all : (vs xs : List ℕ) → length xs ≤ length (add_all xs vs)
length_all [] xs = omega arith
length_all (v ∷ vs) xs = omega (arith, length_add xs v, length_all vs (add xs v))

pub at_all : (vs xs : List ℕ) (j : ℕ) → j < length xs → get_or (add_all xs vs) j 0 ≡ get_or xs j 0
at_all [] xs j h = refl
at_all (v ∷ vs) xs j h = at_all vs (add xs v) j (omega (arith, length_add xs v)) ∙ at_add xs v j h

-- where a number stands
pub place_of : (xs : List ℕ) (w : ℕ) → is_in xs w ≡ true → (j : ℕ) × (j < length xs) × (get_or xs j 0 ≡ w)
place_of [] w h = absurd (true≢false (sym h))
place_of (x ∷ xs) w h = or_elim (nat_eq x w) (is_in xs w) h
    (λ e. (0, omega arith, eqb-true x w e))
    (λ e. let p = place_of xs w e in (suc p.0, omega (arith, p.1), p.2))

pub in_at : (xs : List ℕ) (j : ℕ) → j < length xs → is_in xs (get_or xs j 0) ≡ true
in_at [] j h = absurd (omega arith)
in_at (x ∷ xs) zero h = or_left _ _ (eq-eqb x x refl)
in_at (x ∷ xs) (suc j) h = or_right (nat_eq x (get_or xs j 0)) _ (in_at xs j (omega arith))

pub in_drop : (i : ℕ) (xs : List ℕ) → i < length xs → is_in (drop i xs) (get_or xs i 0) ≡ true
in_drop i xs h = subst (λ l. is_in l (get_or xs i 0) ≡ true) (sym (drop-cons xs i 0 h))
    (or_left (nat_eq (get_or xs i 0) (get_or xs i 0)) (is_in (drop (suc i) xs) (get_or xs i 0)) (eq-eqb (get_or xs i 0) (get_or xs i 0) refl))

-- what stands at a place of a list
pub at_place : {A B : Type 0} (g : A → B) (xs : List A) (u : ℕ) (x : A) (d : B) → slice_get xs u ≡ Some x → get_or (map g xs) u d ≡ g x
at_place g [] u x d h = absurd (none-some x h)
at_place g (y ∷ xs) zero x d h = ap g (same_Some y x h)
at_place g (y ∷ xs) (suc u) x d h = at_place g xs u x d h
