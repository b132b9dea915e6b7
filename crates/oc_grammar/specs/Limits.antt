-- How deep a program may be.
use Rattle.std.specs.Prelude.{ℕ}

-- how deep a program may be
pub record Limits : Type 0 where
  -- how many blocks may be in one another
  pub blocks : ℕ
  -- how many brackets and prefix operators of a whole expression may be in one another
  pub brackets : ℕ
  -- how many binary operators a whole expression may have
  pub operators : ℕ

-- how deep programs of the language may be
abbrev pub the_depths : Limits
the_depths = record { blocks = 32; brackets = 33; operators = 255 }

-- a depth that is limited: of blocks, of brackets, or of operators
pub data Depth : Type 0 where
  blocks_depth : Depth
  brackets_depth : Depth
  operators_depth : Depth

-- what the limits say of a depth
abbrev pub limit : Depth → Limits → ℕ
limit blocks_depth limits = limits.blocks
limit brackets_depth limits = limits.brackets
limit operators_depth limits = limits.operators
