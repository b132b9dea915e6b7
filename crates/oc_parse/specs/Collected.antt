-- What is collected to find the statements that `atomic` begins: those with the tree of an `if`, by
-- the sizes of what stands before them, and the tokens that begin one.
use Rattle.std.specs.Prelude.{ℕ, ◌+◌, Bool, true, false, List, [], ◌∷◌, ◌++◌}
use Rattle.oc_tree.specs.Tree.{TKind, if_else, for_in, while_do, TElse, no_else, else_do, stmt, TBlock, block, TStmts, no_stmts, more, TFunction}
use Rattle.oc_tree.specs.Pulls.{own_pulls}
use Rattle.oc_tree.specs.Expansion.{inner_size, block_size}
use Rattle.oc_lex.specs.declared.token.Kind.{Kind}
use Rattle.oc_lex.specs.declared.token.Kind.TheVariants as kinds
use Rattle.oc_lex.specs.declared.token.Word.TheVariants as words
use Rattle.oc_lex.specs.declared.token.Token.{Token}

-- the number of a statement, if it has the tree of an `if`
abbrev pub own_if : ℕ → TKind → List ℕ
own_if n (if_else c a b) = n ∷ []
own_if n _ = []

abbrev mutual
  -- the numbers in the expansion of the `if`s inside a statement, statements numbered from `i`
  pub kind_ifs_at : ℕ → TKind → List ℕ
  kind_ifs_at i (if_else c a b) = block_ifs_at i a ++ else_ifs_at (i + block_size a) b
  kind_ifs_at i (for_in x m n b) = block_ifs_at i b
  kind_ifs_at i (while_do c n b) = block_ifs_at i b
  kind_ifs_at i _ = []

  -- the numbers in the expansion of the `if`s in an `else`, statements numbered from `i`
  pub else_ifs_at : ℕ → TElse → List ℕ
  else_ifs_at i no_else = []
  else_ifs_at i (else_do b) = block_ifs_at i b

  -- the numbers in the expansion of the `if`s in a block, statements numbered from `i`
  pub block_ifs_at : ℕ → TBlock → List ℕ
  block_ifs_at i (block id ss) = stmts_ifs_at i ss

  -- the numbers in the expansion of the `if`s among statements, numbered from `i`
  pub stmts_ifs_at : ℕ → TStmts → List ℕ
  stmts_ifs_at i no_stmts = []
  stmts_ifs_at i (more (stmt id line k) ss) =
      own_if (i + own_pulls k) k ++ (kind_ifs_at (i + own_pulls k + 1) k
      ++ stmts_ifs_at (i + (own_pulls k + 1 + inner_size k)) ss)

-- the numbers in the expansion of the `if`s of functions, statements numbered from `i`
abbrev pub functions_ifs_at : ℕ → List TFunction → List ℕ
functions_ifs_at i [] = []
functions_ifs_at i (f ∷ fs) = block_ifs_at i f.body ++ functions_ifs_at (i + block_size f.body) fs

-- of the kind of a token that begins an `if` or an `atomic`: whether it is `atomic`
abbrev pub kind_begins : Kind → List Bool
kind_begins (kinds.Word words.If) = false ∷ []
kind_begins (kinds.Word words.Atomic) = true ∷ []
kind_begins _ = []

-- of a token that begins an `if` or an `atomic`: whether it is `atomic`
abbrev pub token_begins : Token → List Bool
token_begins t = kind_begins t.kind
