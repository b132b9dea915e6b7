-- Lists of numbers in which each stands once.
use Rattle.std.specs.Prelude.{ℕ, Bool, false, ◌||◌, ◌++◌, List, [], ◌∷◌, nat_eq, if◌then◌else◌, map}
use Rattle.std.proofs.Common.{Vec, Global}

-- a number is one of these
abbrev pub is_in : List ℕ → ℕ → Bool
is_in [] v = false
is_in (x ∷ xs) v = nat_eq x v || is_in xs v

-- the numbers with one more, if it isn't there yet
abbrev pub add : List ℕ → ℕ → List ℕ
add xs v = if is_in xs v then xs else xs ++ v ∷ []

-- the numbers with each of others that isn't there yet
abbrev pub add_all : List ℕ → List ℕ → List ℕ
add_all xs [] = xs
add_all xs (v ∷ vs) = add_all (add xs v) vs

-- the rows that code holds, as lists
abbrev pub rows : List (Vec ℕ Global) → List (List ℕ)
rows r = map (λ v. v.items) r
