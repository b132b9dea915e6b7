-- The block of a consistent set: the smallest one that holds all its annotations.
use Rattle.std.specs.Prelude.{ℕ, ◌+◌, ℤ, Option, Some, None, if◌then◌else◌, ◌==◌, unwrap_or}
use Rattle.std.specs.Ordering.{int_eq}
use Rattle.oc_tree.specs.Tree.{TKind, if_else, for_in, while_do, consistent, TElse, no_else, else_do, stmt, TBlock, block, TStmts, no_stmts, more}

abbrev mutual
  -- how many annotations of the set k stand in a statement
  pub kind_notes : ℤ → TKind → ℕ
  kind_notes k (consistent x i) = if int_eq i k then 1 else 0
  kind_notes k (if_else c a b) = block_notes k a + else_notes k b
  kind_notes k (for_in x c d b) = block_notes k b
  kind_notes k (while_do c n b) = block_notes k b
  kind_notes k s = 0

  -- how many annotations of the set k stand in what an `if` does otherwise
  pub else_notes : ℤ → TElse → ℕ
  else_notes k no_else = 0
  else_notes k (else_do b) = block_notes k b

  -- how many annotations of the set k stand in a block
  pub block_notes : ℤ → TBlock → ℕ
  block_notes k (block id ss) = stmts_notes k ss

  -- how many annotations of the set k stand in statements
  pub stmts_notes : ℤ → TStmts → ℕ
  stmts_notes k no_stmts = 0
  stmts_notes k (more (stmt id line s) rest) = kind_notes k s + stmts_notes k rest

-- the first of two numbers that may be there, or else the second
abbrev pub or_first : Option ℕ → Option ℕ → Option ℕ
or_first None b = b
or_first (Some a) b = Some a

abbrev mutual
  -- the smallest block in a statement that holds n annotations of the set k, if there is one
  pub kind_home : ℤ → ℕ → TKind → Option ℕ
  kind_home k n (if_else c a b) = or_first (block_home k n a) (else_home k n b)
  kind_home k n (for_in x c d b) = block_home k n b
  kind_home k n (while_do c t b) = block_home k n b
  kind_home k n s = None

  -- the smallest block in what an `if` does otherwise that holds n annotations of the set k, if
  -- there is one
  pub else_home : ℤ → ℕ → TElse → Option ℕ
  else_home k n no_else = None
  else_home k n (else_do b) = block_home k n b

  -- the smallest block that holds n annotations of the set k, this one or one in it
  pub block_home : ℤ → ℕ → TBlock → Option ℕ
  block_home k n (block id ss) =
      if n == stmts_notes k ss then or_first (stmts_home k n ss) (Some id) else None

  -- the smallest block in statements that holds n annotations of the set k, if there is one
  pub stmts_home : ℤ → ℕ → TStmts → Option ℕ
  stmts_home k n no_stmts = None
  stmts_home k n (more (stmt id line s) rest) = or_first (kind_home k n s) (stmts_home k n rest)

-- the smallest block in a function's body that holds all annotations of the set k
abbrev pub set_home : TBlock → ℤ → ℕ
set_home body k = unwrap_or (block_home k (block_notes k body) body) 0
