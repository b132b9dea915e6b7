-- What is kept of a line that isn't finished.
use Rattle.std.specs.Prelude.{ℕ, List}

-- the bytes of a line that isn't finished, of which there are so many at most
pub record Line : Type 0 where
  pub bytes : List ℕ
  pub most : ℕ
