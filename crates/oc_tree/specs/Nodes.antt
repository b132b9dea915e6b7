-- How many nodes of expressions there are.
use Rattle.std.specs.Prelude.{ℕ, ◌+◌, sum_by}
use Rattle.oc_tree.specs.Tree.{TExpr, number, truth, variable, index, deref, unary, binary, sensed, called, TArg, value, shared, mutable, TCall, call, TArgs, no_args, more_args}
use Rattle.oc_tree.specs.Tree.{TRight, right_value, right_sense, right_call, TKind, let_to, let_array, assign, assign_index, assign_deref, if_else, for_in, while_do, call_only}
use Rattle.oc_tree.specs.Tree.{sense_only, emit, fresh, consistent, return, TElse, no_else, else_do, TStmt, stmt, TBlock, block, TStmts, no_stmts, more, TProgram}

abbrev mutual
  -- how many nodes an expression has
  pub expr_nodes : TExpr → ℕ
  expr_nodes (number n) = 1
  expr_nodes (truth b) = 1
  expr_nodes (variable x) = 1
  expr_nodes (index x i) = expr_nodes i + 1
  expr_nodes (deref x) = 1
  expr_nodes (unary op e) = expr_nodes e + 1
  expr_nodes (binary op a b) = expr_nodes a + expr_nodes b + 1
  expr_nodes (sensed s) = 1
  expr_nodes (called c) = call_nodes c + 1

  -- how many nodes of expressions an argument has
  pub arg_nodes : TArg → ℕ
  arg_nodes (value e) = expr_nodes e
  arg_nodes (shared x) = 0
  arg_nodes (mutable x) = 0

  -- how many nodes of expressions the arguments of a call have
  pub call_nodes : TCall → ℕ
  call_nodes (call f args) = args_nodes args

  -- how many nodes of expressions arguments have
  pub args_nodes : TArgs → ℕ
  args_nodes no_args = 0
  args_nodes (more_args a rest) = arg_nodes a + args_nodes rest

-- how many nodes of expressions a right side has
abbrev pub right_nodes : TRight → ℕ
right_nodes (right_value e) = expr_nodes e
right_nodes (right_sense s) = 0
right_nodes (right_call c) = call_nodes c

abbrev mutual
  -- how many nodes of expressions a statement has, with those inside it
  pub kind_nodes : TKind → ℕ
  kind_nodes (let_to m x k r) = right_nodes r
  kind_nodes (let_array m x k i n) = 0
  kind_nodes (assign x r) = right_nodes r
  kind_nodes (assign_index x i r) = expr_nodes i + right_nodes r
  kind_nodes (assign_deref x r) = right_nodes r
  kind_nodes (if_else c a b) = expr_nodes c + block_nodes a + else_nodes b
  kind_nodes (for_in x m n b) = block_nodes b
  kind_nodes (while_do c n b) = expr_nodes c + block_nodes b
  kind_nodes (call_only c) = call_nodes c
  kind_nodes (sense_only s) = 0
  kind_nodes (emit p e) = expr_nodes e
  kind_nodes (fresh x) = 0
  kind_nodes (consistent x n) = 0
  kind_nodes (return e) = expr_nodes e

  -- how many nodes of expressions an `else` has
  pub else_nodes : TElse → ℕ
  else_nodes no_else = 0
  else_nodes (else_do b) = block_nodes b

  -- how many nodes of expressions a numbered statement has, with those inside it
  pub stmt_nodes : TStmt → ℕ
  stmt_nodes (stmt id line k) = kind_nodes k

  -- how many nodes of expressions a block has
  pub block_nodes : TBlock → ℕ
  block_nodes (block id ss) = stmts_nodes ss

  -- how many nodes of expressions statements have, with those inside them
  pub stmts_nodes : TStmts → ℕ
  stmts_nodes no_stmts = 0
  stmts_nodes (more s ss) = stmt_nodes s + stmts_nodes ss

-- how many nodes of expressions a program has
abbrev pub program_nodes : TProgram → ℕ
program_nodes p = sum_by (λ f. block_nodes f.body) p.functions
