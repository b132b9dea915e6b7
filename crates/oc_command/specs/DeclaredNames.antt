-- What a walk that seeks the declaration of a variable sees.
use Rattle.std.specs.Prelude.{ℕ, ◌==◌, List, [], ◌∷◌, Option, Some, None, cond}
use Rattle.std.specs.Option.{option_or}
use Rattle.oc_tree.specs.Names.{Text}
use Rattle.oc_tree.specs.Tree.{TKind, if_else, for_in, while_do, TElse, no_else, else_do, stmt, TBlock, block, TStmts, no_stmts, more, TFunction, TProgram}
use Rattle.oc_command.specs.Names.{declared_name}

-- the name that the statement with the number `s` declares, where that stands in a tree
abbrev mutual
  pub kind_names : (s : ℕ) → TKind → Option Text
  kind_names s (if_else c a b) = option_or (block_names s a) (else_names s b)
  kind_names s (for_in x m n b) = block_names s b
  kind_names s (while_do c n b) = block_names s b
  kind_names s _ = None

  pub else_names : (s : ℕ) → TElse → Option Text
  else_names s no_else = None
  else_names s (else_do b) = block_names s b

  pub block_names : (s : ℕ) → TBlock → Option Text
  block_names s (block id ss) = stmts_names s ss

  pub stmts_names : (s : ℕ) → TStmts → Option Text
  stmts_names s no_stmts = None
  stmts_names s (more (stmt id line k) ss) =
      cond (id == s) (Some (declared_name k)) (option_or (kind_names s k) (stmts_names s ss))

abbrev pub functions_names : (s : ℕ) → List TFunction → Option Text
functions_names s [] = None
functions_names s (f ∷ fs) = option_or (block_names s f.body) (functions_names s fs)

abbrev pub program_names : (s : ℕ) → TProgram → Option Text
program_names s p = functions_names s p.functions
