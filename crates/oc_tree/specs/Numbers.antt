-- The numbers of statements and blocks, in source order.
use Rattle.std.specs.Prelude.{ℕ, zero, suc, List, [], ◌∷◌, ◌++◌, flat_map}
use Rattle.oc_tree.specs.Tree.{TKind, if_else, for_in, while_do, TElse, no_else, else_do, TStmt, stmt, TBlock, block, TStmts, no_stmts, more, TProgram}

-- so many numbers, from the first on
abbrev pub numbers_on : (first count : ℕ) → List ℕ
numbers_on first zero = []
numbers_on first (suc n) = first ∷ numbers_on (suc first) n

-- ---- statements, in the order of their first tokens

abbrev mutual
  -- the numbers of the statements inside a statement, in the order of their first tokens
  pub kind_statements : TKind → List ℕ
  kind_statements (if_else c a b) = block_statements a ++ else_statements b
  kind_statements (for_in x m n b) = block_statements b
  kind_statements (while_do c n b) = block_statements b
  kind_statements _ = []

  -- the numbers of the statements of an `else`, with those inside them
  pub else_statements : TElse → List ℕ
  else_statements no_else = []
  else_statements (else_do b) = block_statements b

  -- the number of a statement, and then the numbers of those inside it
  pub stmt_statements : TStmt → List ℕ
  stmt_statements (stmt id line k) = id ∷ kind_statements k

  -- the numbers of the statements of a block, with those inside them
  pub block_statements : TBlock → List ℕ
  block_statements (block id ss) = stmts_statements ss

  -- the numbers of statements, with those inside them
  pub stmts_statements : TStmts → List ℕ
  stmts_statements no_stmts = []
  stmts_statements (more s ss) = stmt_statements s ++ stmts_statements ss

-- ---- blocks, in the order of their `{`; that of an `else if` has the place of its `if`

abbrev mutual
  -- the numbers of the blocks inside a statement, in the order of their `{`
  pub kind_blocks : TKind → List ℕ
  kind_blocks (if_else c a b) = block_blocks a ++ else_blocks b
  kind_blocks (for_in x m n b) = block_blocks b
  kind_blocks (while_do c n b) = block_blocks b
  kind_blocks _ = []

  -- the numbers of the block of an `else` and of those inside it
  pub else_blocks : TElse → List ℕ
  else_blocks no_else = []
  else_blocks (else_do b) = block_blocks b

  -- the numbers of the blocks inside a numbered statement
  pub stmt_blocks : TStmt → List ℕ
  stmt_blocks (stmt id line k) = kind_blocks k

  -- the number of a block, and then the numbers of those inside it
  pub block_blocks : TBlock → List ℕ
  block_blocks (block id ss) = id ∷ stmts_blocks ss

  -- the numbers of the blocks inside statements
  pub stmts_blocks : TStmts → List ℕ
  stmts_blocks no_stmts = []
  stmts_blocks (more s ss) = stmt_blocks s ++ stmts_blocks ss

-- the numbers of all statements of a program, in source order
abbrev pub program_statements : TProgram → List ℕ
program_statements p = flat_map (λ f. block_statements f.body) p.functions

-- the numbers of all blocks of a program, in the order of their `{`
abbrev pub program_blocks : TProgram → List ℕ
program_blocks p = flat_map (λ f. block_blocks f.body) p.functions
