-- Tables of regions by the numbers of statements.
use Rattle.std.proofs.Common.{◌≡◌, ◌<◌, ◌==◌, ◌++◌, ℕ, zero, suc, Bool, true, false, List, [], ◌∷◌, Option, Some, None, cond, length, refl, sym, ap, ◌∙◌, arith, set}
use Rattle.std.specs.Option.{option_or}
use Rattle.std.proofs.Math.ListN.{get_or}

-- with one more place
pub longer : (xs : List (Option ℕ)) (n : ℕ) → get_or (xs ++ None ∷ []) n None ≡ get_or xs n None
longer [] zero = refl
longer [] (suc n) = refl
longer (x ∷ xs) zero = refl
longer (x ∷ xs) (suc n) = longer xs n

pub or_none : (o : Option ℕ) → option_or o None ≡ o
or_none None = refl
or_none (Some x) = refl

-- a number that is another one
elsewhere : (o : Option ℕ) (b : Bool) (r : ℕ) → b ≡ false → o ≡ option_or o (cond b (Some r) None)
elsewhere o b r e = sym (ap (λ t. option_or o (cond t (Some r) None)) e ∙ or_none o)

-- with one more region noted
pub noted : (xs : List (Option ℕ)) (s n r : ℕ) → s < length xs → get_or (set xs s (option_or (get_or xs s None) (Some r))) n None ≡ option_or (get_or xs n None) (cond (n == s) (Some r) None)
noted [] s n r h = absurd (omega (arith, h))
noted (x ∷ xs) zero zero r h = refl
noted (x ∷ xs) zero (suc n) r h = elsewhere (get_or xs n None) (suc n == zero) r (grind arith)
noted (x ∷ xs) (suc s) zero r h = elsewhere x (zero == suc s) r (grind arith)
noted (x ∷ xs) (suc s) (suc n) r h =
    let same : (suc n == suc s) ≡ (n == s) = grind arith in
    noted xs s n r (omega (arith, h)) ∙ ap (λ b. option_or (get_or xs n None) (cond b (Some r) None)) (sym same)

-- one step of a loop that notes what a search finds first
pub noted_step : (a : Option ℕ) (b : Bool) (r : ℕ) (rest : Option ℕ) → option_or (option_or a (cond b (Some r) None)) rest ≡ option_or a (cond b (Some r) rest)
noted_step (Some a) b r rest = refl
noted_step None true r rest = refl
noted_step None false r rest = refl
