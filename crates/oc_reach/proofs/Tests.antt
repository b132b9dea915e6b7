-- Numbers whose tests pass.
use Rattle.std.proofs.Common.{◌≡◌, ◌<◌, ◌≤◌, ◌+◌, ℕ, zero, suc, Bool, true, false, List, [], ◌∷◌, nat_eq, length, refl, sym, ap, ◌∙◌, true≢false, arith, subst, take}
use Rattle.std.specs.Prelude.{◌&&◌, ◌||◌}
use Rattle.std.proofs.Math.ListN.{get_or}
use Rattle.std.proofs.lemmas.Bool.{eqb-true, eq-eqb, and_from, and_parts}
use Rattle.std.proofs.lemmas.Bool.Decides.{nat_tests}
use Rattle.oc_tree.specs.Reach.{Links, reaches, reaches_some}
use Rattle.oc_reach.specs.Marked.{is_in, add}
use Rattle.oc_reach.proofs.Bools.{or_false, both_ways}
use Rattle.oc_reach.proofs.Lists.{in_add}
use Rattle.oc_reach.proofs.Walk.{some_same, some_at, some_is}

-- one test more
take_test : (tests : List Bool) (i v : ℕ) → get_or (take (suc i) tests) v false ≡ get_or (take i tests) v false || (nat_eq i v && get_or tests i false)
take_test [] zero v = by (nat_eq zero v)
  where
    by : (b : Bool) → false ≡ b && false
    by true = refl
    by false = refl
take_test [] (suc i) v = by (nat_eq (suc i) v)
  where
    by : (b : Bool) → false ≡ b && false
    by true = refl
    by false = refl
take_test (t ∷ ts) zero zero = refl
take_test (t ∷ ts) zero (suc v) = let e : nat_eq zero (suc v) ≡ false = grind (arith, nat_tests) in ap (λ b. b && t) (sym e)
take_test (t ∷ ts) (suc i) zero =
    let e : nat_eq (suc i) zero ≡ false = grind (arith, nat_tests) in
    let f : nat_eq (suc i) zero && get_or ts i false ≡ false = ap (λ b. b && get_or ts i false) e in
    sym (or_false t (nat_eq (suc i) zero && get_or ts i false) f)
take_test (t ∷ ts) (suc i) (suc v) = take_test ts i v ∙ ap (λ b. get_or (take i ts) v false || (b && get_or ts i false)) (same i v)
  where
    same : (i v : ℕ) → nat_eq i v ≡ nat_eq (suc i) (suc v)
    same i v = grind (arith, nat_tests)

pub test_on : (xs : List ℕ) (tests : List Bool) (i : ℕ) → ((v : ℕ) → is_in xs v ≡ get_or (take i tests) v false) → get_or tests i false ≡ true → (v : ℕ)
    → is_in (add xs i) v ≡ get_or (take (i + 1) tests) v false
test_on xs tests i h e v =
    let s : nat_eq i v ≡ nat_eq i v && get_or tests i false = by (nat_eq i v) (get_or tests i false) e in
    let n : suc i ≡ i + 1 = omega arith in
    in_add xs i v ∙ ap (λ b. b || nat_eq i v) (h v) ∙ ap (λ b. get_or (take i tests) v false || b) s ∙ sym (take_test tests i v) ∙ ap (λ j. get_or (take j tests) v false) n
  where
    by : (a b : Bool) → b ≡ true → a ≡ a && b
    by true b k = sym k
    by false b k = refl

pub test_off : (xs : List ℕ) (tests : List Bool) (i : ℕ) → ((v : ℕ) → is_in xs v ≡ get_or (take i tests) v false) → get_or tests i false ≡ false → (v : ℕ)
    → is_in xs v ≡ get_or (take (i + 1) tests) v false
test_off xs tests i h e v =
    let s : nat_eq i v && get_or tests i false ≡ false = by (nat_eq i v) (get_or tests i false) e in
    let n : suc i ≡ i + 1 = omega arith in
    h v ∙ sym (take_test tests i v ∙ or_false (get_or (take i tests) v false) (nat_eq i v && get_or tests i false) s) ∙ ap (λ j. get_or (take j tests) v false) n
  where
    by : (a b : Bool) → b ≡ false → a && b ≡ false
    by true b k = k
    by false b k = refl

-- a test that passes is one of the list
pub test_inside : (tests : List Bool) (v : ℕ) → get_or tests v false ≡ true → v < length tests
test_inside [] v h = absurd (true≢false (sym h))
test_inside (t ∷ ts) zero h = omega arith
test_inside (t ∷ ts) (suc v) h = omega (arith, test_inside ts v h)

-- what reaches a number that passes is told by the test alone
pub some_tests : (links : Links) (n : ℕ) (p q : ℕ → Bool) (u : ℕ) → ((v : ℕ) → p v ≡ q v) → reaches_some links n p u ≡ reaches_some links n q u
some_tests links n p q u h = some_same n (λ v. p v && reaches links n u v) (λ v. q v && reaches links n u v) (λ v k. ap (λ b. b && reaches links n u v) (h v))

-- one number alone
pub only_one : (links : Links) (n f u : ℕ) → f < n → reaches_some links n (is_in (f ∷ [])) u ≡ reaches links n u f
only_one links n f u h = both_ways _ _
    (λ e. let p = some_is n (λ v. is_in (f ∷ []) v && reaches links n u v) e in
    let q : is_in (f ∷ []) p.0 ≡ true = (and_parts (is_in (f ∷ []) p.0) (reaches links n u p.0) p.2).0 in
    let s : nat_eq f p.0 ≡ true = sym (or_false (nat_eq f p.0) false refl) ∙ q in
    subst (λ x. reaches links n u x ≡ true) (sym (eqb-true f p.0 s)) (and_parts (is_in (f ∷ []) p.0) (reaches links n u p.0) p.2).1)
    (λ e. let s : is_in (f ∷ []) f ≡ true = or_false (nat_eq f f) false refl ∙ eq-eqb f f refl in
    some_at n (λ v. is_in (f ∷ []) v && reaches links n u v) f h (and_from (is_in (f ∷ []) f) (reaches links n u f) s e))
