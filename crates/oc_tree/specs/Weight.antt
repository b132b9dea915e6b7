-- The weight of a function: the greatest number of instructions that an execution takes, without
-- probes and marks. It speaks of a program without pulls; `ws` has the weights of the functions
-- that are called, by their places.
use Rattle.std.specs.Prelude.{ℕ, zero, suc, ◌+◌, ◌*◌, ℤ, pos, negsuc, ◌-ℤ◌, Bool, false, List, [], map, max, length, Option, Some, None, is_some, cond}
use Rattle.std.proofs.Math.ListN.{get_or}
use Rattle.oc_tree.specs.Tree.{TExpr, number, truth, variable, index, deref, unary, binary, sensed, called, TArg, value, shared, mutable, TCall, call, TArgs, no_args, more_args}
use Rattle.oc_tree.specs.Tree.{TRight, right_value, right_sense, right_call, TKind, let_to, let_array, assign, assign_index, assign_deref, if_else, for_in, while_do, call_only}
use Rattle.oc_tree.specs.Tree.{sense_only, emit, fresh, consistent, return, TElse, no_else, else_do, stmt, TBlock, block, TStmts, no_stmts, more, TFunction, TProgram}
use Rattle.oc_tree.specs.declared.tree.BinaryOp.{BinaryOp}
use Rattle.oc_tree.specs.declared.tree.BinaryOp.TheVariants.{And, Or}
use Rattle.oc_tree.specs.Calls.{function_place, callee}
use Rattle.oc_tree.specs.Expansion.{expansion}

-- what is known of the function at a place, as its weight or its stack; 0 where there is none
abbrev pub known_of : List ℕ → Option ℕ → ℕ
known_of ws None = 0
known_of ws (Some v) = get_or ws v 0

-- what an operator takes with its sides: `&&` two jumps, `||` a jump and then two instructions or
-- its right side, any other one instruction more
abbrev pub binary_cost : BinaryOp → ℕ → ℕ → ℕ
binary_cost And a b = a + b + 2
binary_cost Or a b = a + 1 + max 2 b
binary_cost op a b = a + b + 1

-- the instructions that an expression of an expansion takes at most; inputs and calls stand in none
abbrev pub expr_cost : TExpr → ℕ
expr_cost (index x e) = expr_cost e + 3
expr_cost (deref x) = 2
expr_cost (unary op e) = expr_cost e + 1
expr_cost (binary op a b) = binary_cost op (expr_cost a) (expr_cost b)
expr_cost (sensed s) = 0
expr_cost (called c) = 0
expr_cost e = 1

-- the instructions that an argument takes at most
abbrev pub arg_cost : TArg → ℕ
arg_cost (value e) = expr_cost e
arg_cost a = 1

-- the instructions that arguments take at most
abbrev pub args_cost : TArgs → ℕ
args_cost no_args = 0
args_cost (more_args a rest) = arg_cost a + args_cost rest

-- the instructions that a call takes at most: its arguments, the call, and what is known of the
-- called function
abbrev pub call_cost : List TFunction → List ℕ → TCall → ℕ
call_cost fs ws (call f args) = args_cost args + 1 + known_of ws (function_place fs f)

-- the instructions that a right side takes at most
abbrev pub right_cost : List TFunction → List ℕ → TRight → ℕ
right_cost fs ws (right_value e) = expr_cost e
right_cost fs ws (right_sense s) = 1
right_cost fs ws (right_call c) = call_cost fs ws c

-- the function at a place, where there is one, has a result
abbrev pub result_at : List TFunction → Option ℕ → Bool
result_at fs None = false
result_at fs (Some v) = get_or (map (λ f. is_some f.result) fs) v false

-- the called function has a result
abbrev pub has_result : List TFunction → TCall → Bool
has_result fs c = result_at fs (function_place fs (callee c))

-- a number as a count of turns, where one below 0 is none
abbrev pub count_of : ℤ → ℕ
count_of (pos n) = n
count_of (negsuc n) = 0

-- the turns of a `for` from `m` up to, but without, `n`
abbrev pub turns : (m n : ℤ) → ℕ
turns m n = count_of (n -ℤ m)

abbrev mutual
  -- the instructions that a statement takes at most, with those inside it
  pub kind_cost : List TFunction → List ℕ → TKind → ℕ
  kind_cost fs ws (let_to m x k r) = right_cost fs ws r + 1
  kind_cost fs ws (let_array m x k z n) = 6 + 14 * n
  kind_cost fs ws (assign x r) = right_cost fs ws r + 1
  kind_cost fs ws (assign_index x e r) = right_cost fs ws r + expr_cost e + 3
  kind_cost fs ws (assign_deref x r) = right_cost fs ws r + 2
  kind_cost fs ws (if_else c a b) = expr_cost c + 1 + else_cost fs ws (block_cost fs ws a) b
  kind_cost fs ws (for_in x m n b) = 6 + turns m n * (9 + block_cost fs ws b)
  kind_cost fs ws (while_do c n b) = 6 + n * (10 + expr_cost c + block_cost fs ws b)
  kind_cost fs ws (call_only c) = call_cost fs ws c + cond (has_result fs c) 1 0
  kind_cost fs ws (sense_only s) = 2
  kind_cost fs ws (emit p e) = expr_cost e + 1
  kind_cost fs ws (return e) = expr_cost e + 1
  kind_cost fs ws k = 0

  -- the instructions of the branches of an `if`, the first `a`, with the jump over the second
  pub else_cost : List TFunction → List ℕ → ℕ → TElse → ℕ
  else_cost fs ws a no_else = a
  else_cost fs ws a (else_do b) = max (a + 1) (block_cost fs ws b)

  -- the instructions that a block takes at most
  pub block_cost : List TFunction → List ℕ → TBlock → ℕ
  block_cost fs ws (block id ss) = stmts_cost fs ws ss

  -- the instructions that statements take at most together
  pub stmts_cost : List TFunction → List ℕ → TStmts → ℕ
  stmts_cost fs ws no_stmts = 0
  stmts_cost fs ws (more (stmt id line k) ss) = kind_cost fs ws k + stmts_cost fs ws ss

-- the weight of a function: its body, and the `ret` of one without a result or the `halt` of
-- `main`; a `return` has its own
abbrev pub function_cost : List TFunction → List ℕ → TFunction → ℕ
function_cost fs ws f = block_cost fs ws f.body + cond (is_some f.result) 0 1

-- the weights of functions, where calls go at most so deep
unfoldable pub weights_to : List TFunction → ℕ → List ℕ
weights_to fs zero = []
weights_to fs (suc depth) = map (function_cost fs (weights_to fs depth)) fs

-- the weights of a program's functions: calls go no deeper than there are functions, without
-- circles
abbrev pub weights : TProgram → List ℕ
weights p = weights_to (expansion p).functions (length p.functions)
