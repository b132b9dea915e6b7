-- Lists that grow at their front, as stacks do: what stands in one is told by how many stand below it.
use Rattle.std.specs.Prelude.{ℕ, List, [], ◌∷◌, length, Option, Some, None, if◌then◌else◌, ◌==◌}

-- of a list that grows at its front, the element behind which so many stand
abbrev pub at_level : {A : Type 0} → List A → ℕ → Option A
at_level [] n = None
at_level (x ∷ xs) n = if n == length xs then Some x else at_level xs n

-- of a list that grows at its front, the list with this in the place of the element behind which so
-- many stand
abbrev pub set_level : {A : Type 0} → List A → ℕ → A → List A
set_level [] n y = []
set_level (x ∷ xs) n y = if n == length xs then y ∷ xs else x ∷ set_level xs n y
