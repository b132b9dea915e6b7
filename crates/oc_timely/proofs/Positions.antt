-- The place of the first that passes a test.
use Rattle.std.proofs.Common.{◌≡◌, ◌<◌, ℕ, suc, ◌+◌, Bool, true, false, List, ◌∷◌, length, Some, None, cond, refl, ap, ◌∙◌, arith}
use Rattle.std.specs.Prelude.{position, nat_lt, not}
use Rattle.std.specs.List.{position_or_len}
use Rattle.std.proofs.lemmas.Bool.{ltb-true, lt-ltb}
use Rattle.std.proofs.lemmas.Option.{same_Some}

pub position_first : {A : Type 0} (t : A → Bool) (x : A) (xs : List A) → t x ≡ true → position t (x ∷ xs) ≡ Some 0
position_first t x xs e = grind (arith, e)

pub position_later : {A : Type 0} (t : A → Bool) (x : A) (xs : List A) (k : ℕ) → t x ≡ false → position t xs ≡ Some k → position t (x ∷ xs) ≡ Some (suc k)
position_later t x xs k e h =
    let n : ℕ = position_or_len t xs in
    let at = told n (length xs) k h in
    ap (λ b. cond (nat_lt (cond (not b) (1 + n) 0) (suc (length xs))) (Some (cond (not b) (1 + n) 0)) None) e ∙ tells n (length xs) k at.0 at.1
  where
    told : (n l k : ℕ) → cond (nat_lt n l) (Some n) None ≡ Some k → (n ≡ k) × (n < l)
    told n l k h = by_test (nat_lt n l) refl h
      where
        by_test : (b : Bool) → nat_lt n l ≡ b → cond b (Some n) None ≡ Some k → (n ≡ k) × (n < l)
        by_test true is f = (same_Some n k f, ltb-true n l is)
        by_test false is f = cc

    tells : (n l k : ℕ) → n ≡ k → n < l → cond (nat_lt (1 + n) (suc l)) (Some (1 + n)) None ≡ Some (suc k)
    tells n l k e h = ap (λ b. cond b (Some (1 + n)) None) (lt-ltb (1 + n) (suc l) (omega arith)) ∙ (let f : 1 + n ≡ suc k = omega (arith, e) in ap Some f)
