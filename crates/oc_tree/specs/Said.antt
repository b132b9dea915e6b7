-- What a report tells.
use Rattle.std.specs.Prelude.{ℕ}
use Rattle.oc_tree.specs.declared.said.Said.{Said}

-- what was said, and at which tick
pub record Told : Type 0 where
  pub tick : ℕ
  pub said : Said
