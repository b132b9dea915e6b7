-- Statements that are numbered in source order.
use Rattle.std.specs.Prelude.{◌≡◌, ℕ, ◌+◌, List, [], ◌∷◌}
use Rattle.oc_tree.specs.Tree.{TKind, if_else, for_in, while_do, TElse, no_else, else_do, stmt, TBlock, block, TStmts, no_stmts, more, TFunction, TProgram}

-- How many statements there are.
abbrev mutual
  -- inside a statement
  pub inner_count : TKind → ℕ
  inner_count (if_else c a b) = block_count a + else_count b
  inner_count (for_in x m n b) = block_count b
  inner_count (while_do c n b) = block_count b
  inner_count _ = 0

  pub else_count : TElse → ℕ
  else_count no_else = 0
  else_count (else_do b) = block_count b

  pub block_count : TBlock → ℕ
  block_count (block id ss) = stmts_count ss

  pub stmts_count : TStmts → ℕ
  stmts_count no_stmts = 0
  stmts_count (more (stmt id line k) ss) = 1 + inner_count k + stmts_count ss

-- The statements have the numbers from `i` on, a statement before those inside it.
abbrev mutual
  pub InnerNumbered : ℕ → TKind → Type 0
  InnerNumbered i (if_else c a b) = BlockNumbered i a × ElseNumbered (i + block_count a) b
  InnerNumbered i (for_in x m n b) = BlockNumbered i b
  InnerNumbered i (while_do c n b) = BlockNumbered i b
  InnerNumbered i _ = Unit {0}

  pub ElseNumbered : ℕ → TElse → Type 0
  ElseNumbered i no_else = Unit {0}
  ElseNumbered i (else_do b) = BlockNumbered i b

  pub BlockNumbered : ℕ → TBlock → Type 0
  BlockNumbered i (block id ss) = StmtsNumbered i ss

  pub StmtsNumbered : ℕ → TStmts → Type 0
  StmtsNumbered i no_stmts = Unit {0}
  StmtsNumbered i (more (stmt id line k) ss) = (id ≡ i) × InnerNumbered (i + 1) k × StmtsNumbered (i + (1 + inner_count k)) ss

abbrev pub FunctionsNumbered : ℕ → List TFunction → Type 0
FunctionsNumbered i [] = Unit {0}
FunctionsNumbered i (f ∷ fs) = BlockNumbered i f.body × FunctionsNumbered (i + block_count f.body) fs

-- the statements of a program are numbered from 1
abbrev pub IsNumbered : TProgram → Type 0
IsNumbered p = FunctionsNumbered 1 p.functions
