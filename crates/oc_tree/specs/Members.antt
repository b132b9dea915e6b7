-- What stands in a list.
use Rattle.std.specs.Prelude.{◌≡◌, ◌⊎◌, ◌==◌, ℕ, Bool, List, [], ◌∷◌}
use Rattle.std.specs.List.{list_any}

-- `x` is an element of a list
abbrev pub IsOf : {A : Type 0} → A → List A → Type 0
IsOf x [] = ⊥
IsOf x (y ∷ ys) = (x ≡ y) ⊎ IsOf x ys

-- a number is an element of a list, as a test
abbrev pub is_number_of : List ℕ → ℕ → Bool
is_number_of xs n = list_any (λ x. x == n) xs
