-- The choice of a supply.
use Rattle.std.specs.Prelude.{ℕ, ◌==◌, List, [], ◌∷◌, Option, Some, None, if◌then◌else◌}

-- the first of a list with this number
abbrev pub first_with : {B : Type 0} → (B → ℕ) → ℕ → List B → Option B
first_with number wanted [] = None
first_with number wanted (b ∷ rest) =
    if number b == wanted then Some b else first_with number wanted rest
