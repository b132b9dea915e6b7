-- What keeps the numbers of a program small, so that each fits its instruction.
use Rattle.std.specs.Prelude.{◌≤◌, ◌<◌, length}
use Rattle.oc_tree.specs.Tree.{TKind, if_else, for_in, while_do, TElse, no_else, else_do, stmt, TBlock, block, TStmts, no_stmts, more, TFunction}
use Rattle.oc_tree.specs.Stack.{frame}

-- each `while` has at most 65,535 turns
abbrev mutual
  pub kind_bounded : TKind → Type 0
  kind_bounded (if_else c a b) = block_bounded a × else_bounded b
  kind_bounded (for_in x from to b) = block_bounded b
  kind_bounded (while_do c n b) = (n < 65536) × block_bounded b
  kind_bounded _ = Unit {0}

  pub else_bounded : TElse → Type 0
  else_bounded no_else = Unit {0}
  else_bounded (else_do b) = block_bounded b

  pub block_bounded : TBlock → Type 0
  block_bounded (block id ss) = stmts_bounded ss

  pub stmts_bounded : TStmts → Type 0
  stmts_bounded no_stmts = Unit {0}
  stmts_bounded (more (stmt id line k) ss) = kind_bounded k × stmts_bounded ss

-- a function has few parameters, its frame is a word, and its loops are bounded
pub record IsSmall (f : TFunction) : Type 0 where
  pub few_params : length f.params ≤ 8
  pub short_frame : frame f < 2147483648
  pub bounded : block_bounded f.body
