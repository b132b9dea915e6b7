-- The expansion of a program: each pull becomes a `let` of a temporary directly before its
-- statement, in the same block. `k` is the number of the next pull and `i` that of the next
-- statement, both counted from 1 over the program.
use Rattle.std.specs.Prelude.{ℕ, ◌+◌, false, List, [], ◌∷◌, ◌++◌, None, sum_by, decimal}
use Rattle.oc_tree.specs.Names.{Text}
use Rattle.oc_tree.specs.Tree.{TExpr, number, truth, variable, index, deref, unary, binary, sensed, called, TArg, value, shared, mutable, TCall, call, TArgs, no_args, more_args}
use Rattle.oc_tree.specs.Tree.{TRight, right_value, right_sense, right_call, TKind, let_to, let_array, assign, assign_index, assign_deref, if_else, for_in, while_do, call_only}
use Rattle.oc_tree.specs.Tree.{sense_only, emit, fresh, consistent, return, TElse, no_else, else_do, TStmt, stmt, TBlock, block, TStmts, no_stmts, more, TFunction, TProgram}
use Rattle.oc_tree.specs.Pulls.{expr_pulls, arg_pulls, call_pulls, own_pulls, stmt_pulls, block_pulls}

abbrev mutual
  -- how many statements the expansion has inside a statement
  pub inner_size : TKind → ℕ
  inner_size (if_else c a b) = block_size a + else_size b
  inner_size (for_in x m n b) = block_size b
  inner_size (while_do c n b) = block_size b
  inner_size _ = 0

  -- how many statements the expansion of an `else` has
  pub else_size : TElse → ℕ
  else_size no_else = 0
  else_size (else_do b) = block_size b

  -- how many statements the expansion of one has: its temporaries, itself, those inside it
  pub stmt_size : TStmt → ℕ
  stmt_size (stmt id line k) = own_pulls k + 1 + inner_size k

  -- how many statements the expansion of a block has, with those inside them
  pub block_size : TBlock → ℕ
  block_size (block id ss) = stmts_size ss

  -- how many statements the expansion of these statements has, with those inside them
  pub stmts_size : TStmts → ℕ
  stmts_size no_stmts = 0
  stmts_size (more s ss) = stmt_size s + stmts_size ss

-- how many statements the expansion of a program has
abbrev pub program_size : TProgram → ℕ
program_size p = sum_by (λ f. block_size f.body) p.functions

-- the name of the temporary of pull `k`: a point and the number
abbrev pub temporary : ℕ → Text
temporary k = 46 ∷ decimal k

-- Pulls are numbered as they end: from the left, and an inner one before the one around it.
abbrev mutual
  -- an expression in which each pull, numbered from `k`, is replaced by its temporary's name
  pub left_expr : ℕ → TExpr → TExpr
  left_expr k (index x e) = index x (left_expr k e)
  left_expr k (unary op e) = unary op (left_expr k e)
  left_expr k (binary op a b) = binary op (left_expr k a) (left_expr (k + expr_pulls a) b)
  left_expr k (sensed s) = variable (temporary k)
  left_expr k (called c) = variable (temporary (k + call_pulls c))
  left_expr k e = e

  -- a call in which each pull, numbered from `k`, is replaced by its temporary's name
  pub left_call : ℕ → TCall → TCall
  left_call k (call f args) = call f (left_args k args)

  -- arguments in which each pull, numbered from `k`, is replaced by its temporary's name
  pub left_args : ℕ → TArgs → TArgs
  left_args k no_args = no_args
  left_args k (more_args a rest) = more_args (left_arg k a) (left_args (k + arg_pulls a) rest)

  -- an argument in which each pull, numbered from `k`, is replaced by its temporary's name
  pub left_arg : ℕ → TArg → TArg
  left_arg k (value e) = value (left_expr k e)
  left_arg k a = a

abbrev mutual
  -- the right sides of the pulls in an expression, numbered from `k`, in the order they end
  pub pulled_expr : ℕ → TExpr → List TRight
  pulled_expr k (index x e) = pulled_expr k e
  pulled_expr k (unary op e) = pulled_expr k e
  pulled_expr k (binary op a b) = pulled_expr k a ++ pulled_expr (k + expr_pulls a) b
  pulled_expr k (sensed s) = right_sense s ∷ []
  pulled_expr k (called c) = pulled_call k c ++ right_call (left_call k c) ∷ []
  pulled_expr k e = []

  -- the right sides of the pulls in a call's arguments, numbered from `k`
  pub pulled_call : ℕ → TCall → List TRight
  pulled_call k (call f args) = pulled_args k args

  -- the right sides of the pulls in arguments, numbered from `k`
  pub pulled_args : ℕ → TArgs → List TRight
  pulled_args k no_args = []
  pulled_args k (more_args a rest) = pulled_arg k a ++ pulled_args (k + arg_pulls a) rest

  -- the right sides of the pulls in an argument, numbered from `k`
  pub pulled_arg : ℕ → TArg → List TRight
  pulled_arg k (value e) = pulled_expr k e
  pulled_arg k a = []

-- a right side with pulls from `k` on replaced by temporaries; an input or call itself stays
abbrev pub left_right : ℕ → TRight → TRight
left_right k (right_value e) = right_value (left_expr k e)
left_right k (right_sense s) = right_sense s
left_right k (right_call c) = right_call (left_call k c)

-- the right sides of the pulls inside a right side, numbered from `k`
abbrev pub pulled_right : ℕ → TRight → List TRight
pulled_right k (right_value e) = pulled_expr k e
pulled_right k (right_sense s) = []
pulled_right k (right_call c) = pulled_call k c

-- the right sides of a statement's own pulls, numbered from `k`; those of a target's index come
-- before those of the right side
abbrev pub pulled : ℕ → TKind → List TRight
pulled k (let_to m x t r) = pulled_right k r
pulled k (assign x r) = pulled_right k r
pulled k (assign_index x e r) = pulled_expr k e ++ pulled_right (k + expr_pulls e) r
pulled k (assign_deref x r) = pulled_right k r
pulled k (if_else c a b) = pulled_expr k c
pulled k (while_do c n b) = pulled_expr k c
pulled k (call_only c) = pulled_call k c
pulled k (emit p e) = pulled_expr k e
pulled k (return e) = pulled_expr k e
pulled k s = []

-- the `let`s of temporaries with these right sides: pulls from `k`, statements from `i` on
abbrev pub temporaries : (k i line : ℕ) → List TRight → List TStmt
temporaries k i line [] = []
temporaries k i line (r ∷ rs) =
    stmt i line (let_to false (temporary k) None r) ∷ temporaries (k + 1) (i + 1) line rs

-- these statements, and behind them the rest of a block
abbrev pub join_stmts : List TStmt → TStmts → TStmts
join_stmts [] rest = rest
join_stmts (s ∷ ss) rest = more s (join_stmts ss rest)

abbrev mutual
  -- the expansion of a statement: its own pulls from `k` on, the statements inside from `i` on
  pub expand_kind : (k i : ℕ) → TKind → TKind
  expand_kind k i (let_to m x t r) = let_to m x t (left_right k r)
  expand_kind k i (assign x r) = assign x (left_right k r)
  expand_kind k i (assign_index x e r) =
      assign_index x (left_expr k e) (left_right (k + expr_pulls e) r)
  expand_kind k i (assign_deref x r) = assign_deref x (left_right k r)
  expand_kind k i (if_else c a b) =
      if_else (left_expr k c) (expand_block (k + expr_pulls c) i a)
      (expand_else (k + expr_pulls c + block_pulls a) (i + block_size a) b)
  expand_kind k i (for_in x m n b) = for_in x m n (expand_block k i b)
  expand_kind k i (while_do c n b) =
      while_do (left_expr k c) n (expand_block (k + expr_pulls c) i b)
  expand_kind k i (call_only c) = call_only (left_call k c)
  expand_kind k i (emit p e) = emit p (left_expr k e)
  expand_kind k i (return e) = return (left_expr k e)
  expand_kind k i s = s

  -- the expansion of an `else`, whose pulls are numbered from `k` and its statements from `i`
  pub expand_else : (k i : ℕ) → TElse → TElse
  expand_else k i no_else = no_else
  expand_else k i (else_do b) = else_do (expand_block k i b)

  -- the group that a statement becomes: its temporaries and then itself, all with its line
  pub expand_stmt : (k i : ℕ) → TStmt → List TStmt
  expand_stmt k i (stmt id line kind) =
      temporaries k i line (pulled k kind)
      ++ stmt (i + own_pulls kind) line (expand_kind k (i + own_pulls kind + 1) kind) ∷ []

  -- the expansion of a block, whose pulls are numbered from `k` and its statements from `i`
  pub expand_block : (k i : ℕ) → TBlock → TBlock
  expand_block k i (block id ss) = block id (expand_stmts k i ss)

  -- the expansion of statements, whose pulls are numbered from `k` and themselves from `i`
  pub expand_stmts : (k i : ℕ) → TStmts → TStmts
  expand_stmts k i no_stmts = no_stmts
  expand_stmts k i (more s ss) =
      join_stmts (expand_stmt k i s) (expand_stmts (k + stmt_pulls s) (i + stmt_size s) ss)

-- the expansion of a function, whose pulls are numbered from `k` and its statements from `i`
abbrev pub expand_function : (k i : ℕ) → TFunction → TFunction
expand_function k i f = record f { body = expand_block k i f.body }

-- the expansions of functions, whose pulls are numbered from `k` and their statements from `i`
abbrev pub expand_functions : (k i : ℕ) → List TFunction → List TFunction
expand_functions k i [] = []
expand_functions k i (f ∷ fs) =
    expand_function k i f ∷ expand_functions (k + block_pulls f.body) (i + block_size f.body) fs

-- the expansion of a program: each pull is a `let` of a temporary before its statement
abbrev pub expansion : TProgram → TProgram
expansion p = record p { functions = expand_functions 1 1 p.functions }

-- A group is told by the numbers of its first and its last statement, which is the written one.
abbrev mutual
  -- the groups of the expansion inside a statement, where statements are numbered from `i`
  pub inner_groups : ℕ → TKind → List (ℕ × ℕ)
  inner_groups i (if_else c a b) = block_groups i a ++ else_groups (i + block_size a) b
  inner_groups i (for_in x m n b) = block_groups i b
  inner_groups i (while_do c n b) = block_groups i b
  inner_groups i _ = []

  -- the groups of the expansion of an `else`, where statements are numbered from `i`
  pub else_groups : ℕ → TElse → List (ℕ × ℕ)
  else_groups i no_else = []
  else_groups i (else_do b) = block_groups i b

  -- the groups of the expansion of a block, where statements are numbered from `i`
  pub block_groups : ℕ → TBlock → List (ℕ × ℕ)
  block_groups i (block id ss) = stmts_groups i ss

  -- the groups of the expansion of statements, numbered from `i`: each from the first temporary to
  -- the written one
  pub stmts_groups : ℕ → TStmts → List (ℕ × ℕ)
  stmts_groups i no_stmts = []
  stmts_groups i (more (stmt id line k) ss) =
      (i, i + own_pulls k) ∷ (inner_groups (i + own_pulls k + 1) k
      ++ stmts_groups (i + (own_pulls k + 1 + inner_size k)) ss)

-- the groups of the expansions of functions, where statements are numbered from `i`
abbrev pub functions_groups : ℕ → List TFunction → List (ℕ × ℕ)
functions_groups i [] = []
functions_groups i (f ∷ fs) = block_groups i f.body ++ functions_groups (i + block_size f.body) fs

-- the groups of a program's expansion, each by the numbers of its first and its last statement
abbrev pub program_groups : TProgram → List (ℕ × ℕ)
program_groups p = functions_groups 1 p.functions
