-- What a walk that seeks an annotation sees.
use Rattle.std.specs.Prelude.{ℕ, ◌+◌, ℤ, ◌==◌, cond, List, [], ◌∷◌, Option, Some, None}
use Rattle.std.specs.Option.{option_or}
use Rattle.oc_tree.specs.Tree.{TKind, if_else, for_in, while_do, consistent, TElse, no_else, else_do, stmt, TBlock, block, TStmts, no_stmts, more, TFunction}

-- the number of the set that a statement annotates
abbrev pub note_of : TKind → Option ℤ
note_of (consistent x k) = Some k
note_of k = None

-- what the statement n annotates, where it stands in this
abbrev mutual
  pub kind_note : ℕ → TKind → Option (Option ℤ)
  kind_note n (if_else c a b) = option_or (block_note n a) (else_note n b)
  kind_note n (for_in x c d b) = block_note n b
  kind_note n (while_do c t b) = block_note n b
  kind_note n k = None

  pub else_note : ℕ → TElse → Option (Option ℤ)
  else_note n no_else = None
  else_note n (else_do b) = block_note n b

  pub block_note : ℕ → TBlock → Option (Option ℤ)
  block_note n (block id ss) = stmts_note n ss

  pub stmts_note : ℕ → TStmts → Option (Option ℤ)
  stmts_note n no_stmts = None
  stmts_note n (more (stmt id line k) ss) =
      cond (id == n) (Some (note_of k)) (option_or (kind_note n k) (stmts_note n ss))

-- the set with a function's number, where the function has the statement, else what comes later
abbrev pub set_or : Option (Option ℤ) → ℕ → Option (ℕ × ℤ) → Option (ℕ × ℤ)
set_or None i later = later
set_or (Some None) i later = None
set_or (Some (Some k)) i later = Some (i, k)

-- the set that the statement n annotates in these functions, the first of which has the number i
abbrev pub set_from : ℕ → ℕ → List TFunction → Option (ℕ × ℤ)
set_from n i [] = None
set_from n i (f ∷ fs) = set_or (block_note n f.body) i (set_from n (i + 1) fs)
