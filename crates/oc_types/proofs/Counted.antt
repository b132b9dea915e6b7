-- No more pulls, and hardly more calls, than nodes of expressions.
use Rattle.std.proofs.Common.{◌≤◌, ◌+◌, [], ◌∷◌, length, arith, length-append}
use Rattle.oc_tree.specs.Tree.{TExpr, number, truth, variable, index, deref, unary, binary, sensed, called, TArg, value, shared, mutable, TCall, call, TArgs, no_args, more_args}
use Rattle.oc_tree.specs.Tree.{TRight, right_value, right_sense, right_call, TKind, let_to, let_array, assign, assign_index, assign_deref, if_else, for_in, while_do, call_only}
use Rattle.oc_tree.specs.Tree.{sense_only, emit, fresh, consistent, return}
use Rattle.oc_tree.specs.Nodes.{expr_nodes, call_nodes, args_nodes, arg_nodes, right_nodes, kind_nodes}
use Rattle.oc_tree.specs.Pulls.{expr_pulls, call_pulls, args_pulls, arg_pulls, right_pulls, own_pulls}
use Rattle.oc_tree.specs.Calls.{expr_calls, call_calls, args_calls, arg_calls, right_calls, own_calls}

mutual
  pub expr_pulled : (e : TExpr) → expr_pulls e ≤ expr_nodes e
  expr_pulled (number m) = omega arith
  expr_pulled (truth b) = omega arith
  expr_pulled (variable x) = omega arith
  expr_pulled (index x i) = omega (arith, expr_pulled i)
  expr_pulled (deref x) = omega arith
  expr_pulled (unary op e) = omega (arith, expr_pulled e)
  expr_pulled (binary op a b) = omega (arith, expr_pulled a, expr_pulled b)
  expr_pulled (sensed s) = omega arith
  expr_pulled (called c) = omega (arith, call_pulled c)

  pub call_pulled : (c : TCall) → call_pulls c ≤ call_nodes c
  call_pulled (call f args) = omega (arith, args_pulled args)

  pub args_pulled : (args : TArgs) → args_pulls args ≤ args_nodes args
  args_pulled no_args = omega arith
  args_pulled (more_args a rest) = omega (arith, arg_pulled a, args_pulled rest)

  pub arg_pulled : (a : TArg) → arg_pulls a ≤ arg_nodes a
  arg_pulled (value e) = expr_pulled e
  arg_pulled (shared x) = omega arith
  arg_pulled (mutable x) = omega arith

pub right_pulled : (r : TRight) → right_pulls r ≤ right_nodes r
right_pulled (right_value e) = omega (arith, expr_pulled e)
right_pulled (right_sense s) = omega arith
right_pulled (right_call c) = call_pulled c

pub few_pulls : (k : TKind) → own_pulls k ≤ kind_nodes k
few_pulls (let_to m x k r) = omega (arith, right_pulled r)
few_pulls (let_array m x k i n) = omega arith
few_pulls (assign x r) = omega (arith, right_pulled r)
few_pulls (assign_index x i r) = omega (arith, expr_pulled i, right_pulled r)
few_pulls (assign_deref x r) = omega (arith, right_pulled r)
few_pulls (if_else c a b) = omega (arith, expr_pulled c)
few_pulls (for_in x m n b) = omega arith
few_pulls (while_do c n b) = omega (arith, expr_pulled c)
few_pulls (call_only c) = omega (arith, call_pulled c)
few_pulls (sense_only s) = omega arith
few_pulls (emit p e) = omega (arith, expr_pulled e)
few_pulls (fresh x) = omega arith
few_pulls (consistent x n) = omega arith
few_pulls (return e) = omega (arith, expr_pulled e)

mutual
  pub expr_called : (e : TExpr) → length (expr_calls e) ≤ expr_nodes e
  expr_called (number m) = omega arith
  expr_called (truth b) = omega arith
  expr_called (variable x) = omega arith
  expr_called (index x i) = omega (arith, expr_called i)
  expr_called (deref x) = omega arith
  expr_called (unary op e) = omega (arith, expr_called e)
  expr_called (binary op a b) = omega (arith, expr_called a, expr_called b, length-append (expr_calls a) (expr_calls b))
  expr_called (sensed s) = omega arith
  expr_called (called c) = omega (arith, call_called c)

  pub call_called : (c : TCall) → length (call_calls c) ≤ call_nodes c + 1
  call_called (call f args) = omega (arith, args_called args, length-append (args_calls args) (call f args ∷ []))

  pub args_called : (args : TArgs) → length (args_calls args) ≤ args_nodes args
  args_called no_args = omega arith
  args_called (more_args a rest) = omega (arith, arg_called a, args_called rest, length-append (arg_calls a) (args_calls rest))

  pub arg_called : (a : TArg) → length (arg_calls a) ≤ arg_nodes a
  arg_called (value e) = expr_called e
  arg_called (shared x) = omega arith
  arg_called (mutable x) = omega arith

pub right_called : (r : TRight) → length (right_calls r) ≤ right_nodes r + 1
right_called (right_value e) = omega (arith, expr_called e)
right_called (right_sense s) = omega arith
right_called (right_call c) = call_called c

pub few_calls : (k : TKind) → length (own_calls k) ≤ kind_nodes k + 1
few_calls (let_to m x k r) = omega (arith, right_called r)
few_calls (let_array m x k i n) = omega arith
few_calls (assign x r) = omega (arith, right_called r)
few_calls (assign_index x i r) = omega (arith, expr_called i, right_called r, length-append (expr_calls i) (right_calls r))
few_calls (assign_deref x r) = omega (arith, right_called r)
few_calls (if_else c a b) = omega (arith, expr_called c)
few_calls (for_in x m n b) = omega arith
few_calls (while_do c n b) = omega (arith, expr_called c)
few_calls (call_only c) = omega (arith, call_called c)
few_calls (sense_only s) = omega arith
few_calls (emit p e) = omega (arith, expr_called e)
few_calls (fresh x) = omega arith
few_calls (consistent x n) = omega arith
few_calls (return e) = omega (arith, expr_called e)
