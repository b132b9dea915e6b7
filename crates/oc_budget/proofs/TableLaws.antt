-- Tables of marked numbers.
use Rattle.std.proofs.Common.{◌≡◌, ◌<◌, ◌||◌, ◌++◌, ℕ, zero, suc, Bool, true, false, List, [], ◌∷◌, length, refl, arith, set}
use Rattle.std.specs.Prelude.{nat_eq}
use Rattle.std.proofs.Math.ListN.{get_or}

-- with one more number marked
pub marked : (xs : List Bool) (s n : ℕ) → s < length xs → get_or (set xs s true) n false ≡ (nat_eq s n || get_or xs n false)
marked [] s n h = absurd (omega (arith, h))
marked (x ∷ xs) zero zero h = grind arith
marked (x ∷ xs) zero (suc n) h = grind arith
marked (x ∷ xs) (suc s) zero h = grind arith
marked (x ∷ xs) (suc s) (suc n) h = grind (arith, marked xs s n (omega (arith, h)))

-- with one more place
pub longer : (xs : List Bool) (n : ℕ) → get_or (xs ++ false ∷ []) n false ≡ get_or xs n false
longer [] zero = refl
longer [] (suc n) = refl
longer (x ∷ xs) zero = refl
longer (x ∷ xs) (suc n) = longer xs n

-- one step of a loop that marks what a test picks
pub step : (a b c : Bool) → (b || (a || c)) ≡ ((a || b) || c)
step true true c = refl
step true false c = refl
step false b c = refl
