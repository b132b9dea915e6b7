-- Pulls: the inputs and calls that stand inside a statement's own expressions and arguments, but
-- are neither its whole right side nor the whole statement. Each takes a temporary, and a statement
-- of its own, in the expansion.
use Rattle.std.specs.Prelude.{ℕ, ◌+◌, Bool, false, true, ◌&&◌, nat_lt, sum_by}
use Rattle.std.specs.List.{list_any}
use Rattle.oc_tree.specs.Tree.{TExpr, number, truth, variable, index, deref, unary, binary, sensed, called, TArg, value, shared, mutable, TCall, call, TArgs, no_args, more_args}
use Rattle.oc_tree.specs.Tree.{TRight, right_value, right_sense, right_call, TKind, let_to, let_array, assign, assign_index, assign_deref, if_else, for_in, while_do, call_only}
use Rattle.oc_tree.specs.Tree.{sense_only, emit, fresh, consistent, return, TElse, no_else, else_do, TStmt, stmt, TBlock, block, TStmts, no_stmts, more, TProgram}
use Rattle.oc_tree.specs.declared.tree.BinaryOp.{BinaryOp}
use Rattle.oc_tree.specs.declared.tree.BinaryOp.TheVariants.{Or, And}
use Rattle.oc_tree.specs.Parts.{own_parts}

abbrev mutual
  -- how many pulls an expression has: inputs and calls inside it, itself among them
  pub expr_pulls : TExpr → ℕ
  expr_pulls (index x i) = expr_pulls i
  expr_pulls (unary op e) = expr_pulls e
  expr_pulls (binary op a b) = expr_pulls a + expr_pulls b
  expr_pulls (sensed s) = 1
  expr_pulls (called c) = call_pulls c + 1
  expr_pulls e = 0

  -- how many pulls the arguments of a call have; the call itself isn't counted
  pub call_pulls : TCall → ℕ
  call_pulls (call f args) = args_pulls args

  -- how many pulls arguments have
  pub args_pulls : TArgs → ℕ
  args_pulls no_args = 0
  args_pulls (more_args a rest) = arg_pulls a + args_pulls rest

  -- how many pulls an argument has
  pub arg_pulls : TArg → ℕ
  arg_pulls (value e) = expr_pulls e
  arg_pulls a = 0

-- how many pulls a right side has inside; one that is itself an input or a call isn't counted
abbrev pub right_pulls : TRight → ℕ
right_pulls (right_value e) = expr_pulls e
right_pulls (right_sense s) = 0
right_pulls (right_call c) = call_pulls c

-- how many pulls a statement itself has, without those of the statements inside it
abbrev pub own_pulls : TKind → ℕ
own_pulls (let_to m x k r) = right_pulls r
own_pulls (assign x r) = right_pulls r
own_pulls (assign_index x i r) = expr_pulls i + right_pulls r
own_pulls (assign_deref x r) = right_pulls r
own_pulls (if_else c a b) = expr_pulls c
own_pulls (while_do c n b) = expr_pulls c
own_pulls (call_only c) = call_pulls c
own_pulls (emit p e) = expr_pulls e
own_pulls (return e) = expr_pulls e
own_pulls k = 0

abbrev mutual
  -- how many pulls the statements inside a statement have
  pub inner_pulls : TKind → ℕ
  inner_pulls (if_else c a b) = block_pulls a + else_pulls b
  inner_pulls (for_in x m n b) = block_pulls b
  inner_pulls (while_do c n b) = block_pulls b
  inner_pulls _ = 0

  -- how many pulls an `else` has
  pub else_pulls : TElse → ℕ
  else_pulls no_else = 0
  else_pulls (else_do b) = block_pulls b

  -- how many pulls a statement has, with those of the statements inside it
  pub stmt_pulls : TStmt → ℕ
  stmt_pulls (stmt id line k) = own_pulls k + inner_pulls k

  -- how many pulls a block has
  pub block_pulls : TBlock → ℕ
  block_pulls (block id ss) = stmts_pulls ss

  -- how many pulls statements have, with those of the statements inside them
  pub stmts_pulls : TStmts → ℕ
  stmts_pulls no_stmts = 0
  stmts_pulls (more s ss) = stmt_pulls s + stmts_pulls ss

-- how many pulls a program has
abbrev pub program_pulls : TProgram → ℕ
program_pulls p = sum_by (λ f. block_pulls f.body) p.functions

-- an operator may skip its right operand: `&&` or `||`
abbrev pub may_skip : BinaryOp → Bool
may_skip Or = true
may_skip And = true
may_skip _ = false

-- the right operand of `&&` or `||` has a pull, which may be skipped
abbrev pub part_skips : TExpr → Bool
part_skips (binary op a b) = may_skip op && nat_lt 0 (expr_pulls b)
part_skips e = false

-- an input or a call stands in the right operand of `&&` or `||`, or in the condition of a `while`
abbrev pub own_skips : TKind → Bool
own_skips (while_do c n b) = nat_lt 0 (expr_pulls c)
own_skips k = list_any part_skips (own_parts k)
