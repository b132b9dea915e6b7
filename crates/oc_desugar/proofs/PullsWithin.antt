-- There are no more pulls than nodes of expressions.
use Rattle.std.proofs.Common.{◌≤◌, ◌+◌, List, [], ◌∷◌, arith, sum_by}
use Rattle.std.proofs.lemmas.List.Sums.{sum_by-cons}
use Rattle.oc_tree.specs.Tree.{TExpr, number, truth, variable, index, deref, unary, binary, sensed, called, TArg, value, shared, mutable, TCall, call, TArgs, no_args, more_args}
use Rattle.oc_tree.specs.Tree.{TRight, right_value, right_sense, right_call, TKind, let_to, let_array, assign, assign_index, assign_deref, if_else, for_in, while_do, call_only}
use Rattle.oc_tree.specs.Tree.{sense_only, emit, fresh, consistent, return, TElse, no_else, else_do, stmt, TBlock, block, TStmts, no_stmts, more, TFunction, TProgram}
use Rattle.oc_tree.specs.Pulls.{expr_pulls, call_pulls, args_pulls, arg_pulls, right_pulls, own_pulls, inner_pulls, else_pulls, block_pulls, stmts_pulls, program_pulls}
use Rattle.oc_tree.specs.Nodes.{expr_nodes, call_nodes, args_nodes, arg_nodes, right_nodes, kind_nodes, else_nodes, block_nodes, stmts_nodes, program_nodes}

mutual
  within_expr : (e : TExpr) → expr_pulls e ≤ expr_nodes e
  within_expr (number n) = omega arith
  within_expr (truth b) = omega arith
  within_expr (variable x) = omega arith
  within_expr (index x e) = omega (arith, within_expr e)
  within_expr (deref x) = omega arith
  within_expr (unary op e) = omega (arith, within_expr e)
  within_expr (binary op a b) = omega (arith, within_expr a, within_expr b)
  within_expr (sensed s) = omega arith
  within_expr (called c) = omega (arith, within_call c)

  within_call : (c : TCall) → call_pulls c ≤ call_nodes c
  within_call (call f args) = within_args args

  within_args : (xs : TArgs) → args_pulls xs ≤ args_nodes xs
  within_args no_args = omega arith
  within_args (more_args a rest) = omega (arith, within_arg a, within_args rest)

  within_arg : (a : TArg) → arg_pulls a ≤ arg_nodes a
  within_arg (value e) = within_expr e
  within_arg (shared x) = omega arith
  within_arg (mutable x) = omega arith

within_right : (r : TRight) → right_pulls r ≤ right_nodes r
within_right (right_value e) = within_expr e
within_right (right_sense s) = omega arith
within_right (right_call c) = within_call c

mutual
  within_kind : (s : TKind) → own_pulls s + inner_pulls s ≤ kind_nodes s
  within_kind (let_to m x t r) = omega (arith, within_right r)
  within_kind (let_array m x t z n) = omega arith
  within_kind (assign x r) = omega (arith, within_right r)
  within_kind (assign_index x e r) = omega (arith, within_expr e, within_right r)
  within_kind (assign_deref x r) = omega (arith, within_right r)
  within_kind (if_else c a b) = omega (arith, within_expr c, within_block a, within_else b)
  within_kind (for_in x m n b) = omega (arith, within_block b)
  within_kind (while_do c n b) = omega (arith, within_expr c, within_block b)
  within_kind (call_only c) = omega (arith, within_call c)
  within_kind (sense_only s) = omega arith
  within_kind (emit p e) = omega (arith, within_expr e)
  within_kind (fresh x) = omega arith
  within_kind (consistent x n) = omega arith
  within_kind (return e) = omega (arith, within_expr e)

  within_else : (b : TElse) → else_pulls b ≤ else_nodes b
  within_else no_else = omega arith
  within_else (else_do b) = within_block b

  within_block : (b : TBlock) → block_pulls b ≤ block_nodes b
  within_block (block id ss) = within_stmts ss

  within_stmts : (ss : TStmts) → stmts_pulls ss ≤ stmts_nodes ss
  within_stmts no_stmts = omega arith
  within_stmts (more (stmt id line k) ss) = omega (arith, within_kind k, within_stmts ss)

within_functions : (fs : List TFunction) → sum_by (λ f. block_pulls f.body) fs ≤ sum_by (λ f. block_nodes f.body) fs
within_functions [] = omega arith
within_functions (f ∷ fs) = omega (arith, sum_by-cons (λ g. block_pulls g.body) f fs, sum_by-cons (λ g. block_nodes g.body) f fs, within_block f.body, within_functions fs)

pub pulls_within : (p : TProgram) → program_pulls p ≤ program_nodes p
pulls_within p = within_functions p.functions
