-- Counts in lists that are turned around.
use Rattle.std.proofs.Common.{◌≡◌, ℕ, ◌+◌, Bool, List, [], ◌∷◌, reverse, cond, refl, ap, ◌∙◌, arith}
use Rattle.std.specs.Prelude.{count_by}
use Rattle.std.specs.List.{sum_by}
use Rattle.std.proofs.lemmas.Grind.{reverse_onto}
use Rattle.std.proofs.lemmas.List.Sums.{sum_by-append, sum_by-cons}

-- which of them stands first makes no difference
pub count_by-reverse : (test : ℕ → Bool) (xs : List ℕ) → count_by test (reverse xs) ≡ count_by test xs
count_by-reverse test [] = refl
count_by-reverse test (x ∷ xs) =
    let one : ℕ → ℕ = λ (y : ℕ). cond (test y) 1 0 in
    let first : count_by test (reverse (x ∷ xs)) ≡ sum_by one (reverse xs) + sum_by one (x ∷ []) = ap (sum_by one) (reverse_onto xs x []) ∙ sum_by-append one (reverse xs) (x ∷ []) in
    let last : count_by test (x ∷ xs) ≡ one x + sum_by one xs = sum_by-cons one x xs in
    let alone : sum_by one (x ∷ []) ≡ one x + sum_by one [] = sum_by-cons one x [] in
    let none : sum_by one [] ≡ 0 = refl in
    let rest : sum_by one (reverse xs) ≡ sum_by one xs = count_by-reverse test xs in
    omega (arith, first, last, alone, none, rest)
