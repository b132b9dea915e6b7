-- What a search in sorted numbers finds.
use Rattle.std.proofs.Common.{◌≡◌, ◌≤◌, ◌<◌, ℕ, zero, suc, true, true≢false, List, [], ◌∷◌, length, Result, Ok, Err, sym, inl, inr, arith}
use Rattle.std.specs.Prelude.{◌⊎◌, ◌==◌, is_ok, MatchResult}
use Rattle.std.proofs.Math.ListN.{get_or}
use Rattle.std.proofs.lemmas.Bool.{eqb-true, eq-eqb, or_left, or_right, false_from_ne_true, cases_lt, or_cases}
use Rattle.oc_tree.specs.Members.{is_number_of}

-- among numbers is what stands at a place
at_place : (xs : List ℕ) (i x : ℕ) → i < length xs → get_or xs i 0 ≡ x → is_number_of xs x ≡ true
at_place [] i x h e = absurd (omega arith)
at_place (y ∷ ys) zero x h e = or_left (y == x) (is_number_of ys x) (eq-eqb y x e)
at_place (y ∷ ys) (suc i) x h e = or_right (y == x) (is_number_of ys x) (at_place ys i x (omega arith) e)

place_of : (xs : List ℕ) (x : ℕ) → is_number_of xs x ≡ true → (i : ℕ) × (i < length xs) × (get_or xs i 0 ≡ x)
place_of [] x e = absurd (true≢false (sym e))
place_of (y ∷ ys) x e = by (or_cases (y == x) (is_number_of ys x) e) (place_of ys x)
  where
    by : (y == x ≡ true) ⊎ (is_number_of ys x ≡ true) → (is_number_of ys x ≡ true → (i : ℕ) × (i < length ys) × (get_or ys i 0 ≡ x)) → (i : ℕ) × (i < length (y ∷ ys)) × (get_or (y ∷ ys) i 0 ≡ x)
    by (inl h) rest = (0, omega arith, eqb-true y x h)
    by (inr h) rest = let r = rest h in (suc r.0, (let k = r.1 in omega (arith, k)), r.2)

pub found_is : (xs : List ℕ) (x : ℕ) (r : Result ℕ ℕ)
    → MatchResult r (λ i. (i < length xs) × (get_or xs i 0 ≡ x)) (λ i. (i ≤ length xs) × ((k : ℕ) → k < i → get_or xs k 0 < x) × ((k : ℕ) → i ≤ k → k < length xs → x < get_or xs k 0))
    → is_ok r ≡ is_number_of xs x
found_is xs x (Ok i) h = sym (at_place xs i x h.0 h.1)
found_is xs x (Err i) h = sym (false_from_ne_true (is_number_of xs x) (λ e. (let c = place_of xs x e in by c.0 c.1 c.2 (cases_lt c.0 i))))
  where
    by : (k : ℕ) → k < length xs → get_or xs k 0 ≡ x → (k < i) ⊎ (i ≤ k) → ⊥
    by k l e (inl a) = let b = h.1 k a in omega (arith, e, b)
    by k l e (inr a) = let b = h.2 k a l in omega (arith, e, b)
