-- A place in the rows of a file.
use Rattle.std.specs.Prelude.{ℕ, List}

-- the row at hand with its number, and the rows left
pub record Cursor : Type 0 where
  pub number : ℕ
  pub row : List (List ℕ)
  pub left : List (List (List ℕ))
