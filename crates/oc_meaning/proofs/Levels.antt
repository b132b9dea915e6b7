-- Local variables in the order in which they were made, and newest first.
use Rattle.std.proofs.Common.{◌≡◌, ℕ, zero, suc, ◌-◌, List, [], ◌∷◌, ◌++◌, length, reverse, take, drop, Option, Some, None, refl, ap, sym, ◌∙◌, arith, length-append}
use Rattle.std.specs.Prelude.{slice_get, slice_index_or, slice_set, unwrap_or}
use Rattle.std.proofs.lemmas.Bool.Decides.{nat_tests}
use Rattle.std.proofs.lemmas.Grind.{reverse_onto}
use Rattle.oc_meaning.specs.Store as meant
use Rattle.oc_meaning.specs.Store.{Held, Store, at, put_at, nothing, held_at, put, left_at}
use Rattle.oc_meaning.specs.Places.{held_or}
use Rattle.oc_meaning.proofs.Visible.{drop-reverse}

-- the oldest one, and the ones that were made after it
at-oldest : (zs : List Held) (x : Held) → at (zs ++ x ∷ []) zero ≡ Some x
at-oldest [] x = refl
at-oldest (z ∷ zs) x = grind (arith, nat_tests, length-append {A = Held}, at-oldest zs x)

at-younger : (zs : List Held) (x : Held) (n : ℕ) → at (zs ++ x ∷ []) (suc n) ≡ at zs n
at-younger [] x n = grind (arith, nat_tests)
at-younger (z ∷ zs) x n = grind (arith, nat_tests, length-append {A = Held}, at-younger zs x n)

at-reverse : (xs : List Held) (n : ℕ) → at (reverse xs) n ≡ slice_get xs n
at-reverse [] n = refl
at-reverse (x ∷ xs) zero = ap (λ l. at l zero) (reverse_onto xs x []) ∙ at-oldest (reverse xs) x
at-reverse (x ∷ xs) (suc n) = ap (λ l. at l (suc n)) (reverse_onto xs x []) ∙ at-younger (reverse xs) x n ∙ at-reverse xs n

put_at-oldest : (zs : List Held) (x y : Held) → put_at (zs ++ x ∷ []) zero y ≡ zs ++ y ∷ []
put_at-oldest [] x y = refl
put_at-oldest (z ∷ zs) x y = grind (arith, nat_tests, length-append {A = Held}, put_at-oldest zs x y)

put_at-younger : (zs : List Held) (x : Held) (n : ℕ) (y : Held) → put_at (zs ++ x ∷ []) (suc n) y ≡ put_at zs n y ++ x ∷ []
put_at-younger [] x n y = grind (arith, nat_tests)
put_at-younger (z ∷ zs) x n y = grind (arith, nat_tests, length-append {A = Held}, put_at-younger zs x n y)

put_at-reverse : (xs : List Held) (n : ℕ) (y : Held) → put_at (reverse xs) n y ≡ reverse (slice_set xs n y)
put_at-reverse [] n y = refl
put_at-reverse (x ∷ xs) zero y = ap (λ l. put_at l zero y) (reverse_onto xs x []) ∙ put_at-oldest (reverse xs) x y ∙ sym (reverse_onto xs y [])
put_at-reverse (x ∷ xs) (suc n) y =
    ap (λ l. put_at l (suc n) y) (reverse_onto xs x []) ∙ put_at-younger (reverse xs) x n y
    ∙ ap (λ l. l ++ x ∷ []) (put_at-reverse xs n y) ∙ sym (reverse_onto (slice_set xs n y) x [])

get_or_nothing : (xs : List Held) (n : ℕ) → unwrap_or (slice_get xs n) nothing ≡ slice_index_or xs n nothing
get_or_nothing [] n = refl
get_or_nothing (x ∷ xs) zero = refl
get_or_nothing (x ∷ xs) (suc n) = get_or_nothing xs n

-- what is found for a local variable
pub held-local : (xs : List Held) (n : ℕ) (found : Option Held) → found ≡ slice_get xs n → held_or (meant.Local n) found ≡ unwrap_or (at (reverse xs) n) nothing
held-local xs n found is = ap (held_or (meant.Local n)) is ∙ by_case (slice_get xs n) ∙ ap (λ o. unwrap_or o nothing) (sym (at-reverse xs n))
  where
    by_case : (o : Option Held) → held_or (meant.Local n) o ≡ unwrap_or o nothing
    by_case None = refl
    by_case (Some h) = refl

-- a local variable is written
pub put-local : (f : Held → Held) (xs new : List Held) (n : ℕ) (σ : Store) → σ.locals ≡ reverse xs → new ≡ slice_set xs n (f (slice_index_or xs n nothing))
    → record σ { locals = reverse new } ≡ put σ (meant.Local n) (f (held_at σ (meant.Local n)))
put-local f xs new n σ old is =
    let before : slice_index_or xs n nothing ≡ held_at σ (meant.Local n) =
    sym (ap (λ l. unwrap_or (at l n) nothing) old ∙ ap (λ o. unwrap_or o nothing) (at-reverse xs n) ∙ get_or_nothing xs n) in
    ap (λ l. record σ { locals = l })
    (ap reverse is ∙ sym (put_at-reverse xs n (f (slice_index_or xs n nothing))) ∙ ap (λ h. put_at (reverse xs) n (f h)) before ∙ ap (λ l. put_at l n (f (held_at σ (meant.Local n)))) (sym old))

-- the youngest ones are dropped
pub left-local : (xs new : List Held) (n : ℕ) (σ : Store) → σ.locals ≡ reverse xs → new ≡ take n xs → record σ { locals = reverse new } ≡ left_at n σ
left-local xs new n σ old is =
    ap (λ l. record σ { locals = l }) (ap reverse is ∙ sym (drop-reverse xs n) ∙ ap (λ l. drop (length l - n) l) (sym old))
