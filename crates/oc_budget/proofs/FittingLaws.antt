-- Numbers that fit 64 bits, and those that don't.
use Rattle.std.proofs.Common.{◌≡◌, ◌<◌, ℕ, List, [], ◌∷◌, map, max, Option, Some, None, refl, ap, ◌∙◌, arith}
use Rattle.std.specs.Option.{IsSome}
use Rattle.oc_budget.specs.Budgets.{greatest, limited, safe_for}
use Rattle.oc_budget.specs.Fitting.{IsFitted}

-- one below the limit is there
pub there : (o : Option ℕ) (n : ℕ) → IsFitted o n → n < 18446744073709551616 → IsSome o
there None n h low = absurd (omega (arith, h, low))
there (Some m) n h low = refl

-- the greatest of limited numbers is that of the numbers, limited
limited_greatest : (b : ℕ) (cs : List ℕ) → greatest (limited b) (map limited cs) ≡ limited (greatest b cs)
limited_greatest b [] = refl
limited_greatest b (c ∷ cs) =
    let most : max (limited b) (limited c) ≡ limited (max b c) = omega arith in
    ap (λ m. greatest m (map limited cs)) most ∙ limited_greatest (max b c) cs

-- what suffices by limited budgets is what suffices by the budgets, limited
pub limited_safe : (w : ℕ) (bs : List ℕ) → limited (safe_for w (map limited bs)) ≡ limited (safe_for w bs)
limited_safe w [] = refl
limited_safe w (b ∷ bs) = omega (arith, limited_greatest b bs)
