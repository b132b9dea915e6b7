-- The stack of a function: its frame, and the most words that its operands and calls have on top of
-- it. It speaks of a program without pulls; `ws` has the stacks of the functions that are called,
-- by their places.
use Rattle.std.specs.Prelude.{ℕ, zero, suc, ◌+◌, List, [], map, max, length, cond, codes}
use Rattle.std.specs.Str.{bytes_eq}
use Rattle.oc_tree.specs.Tree.{TExpr, number, truth, variable, index, deref, unary, binary, sensed, called, TArg, value, shared, mutable, TCall, call, TArgs, no_args, more_args}
use Rattle.oc_tree.specs.Tree.{TRight, right_value, right_sense, right_call, TKind, let_to, let_array, assign, assign_index, assign_deref, if_else, for_in, while_do, call_only}
use Rattle.oc_tree.specs.Tree.{sense_only, emit, fresh, consistent, return, TElse, no_else, else_do, stmt, TBlock, block, TStmts, no_stmts, more, TFunction, TProgram}
use Rattle.oc_tree.specs.declared.tree.BinaryOp.{BinaryOp}
use Rattle.oc_tree.specs.declared.tree.BinaryOp.TheVariants.{And, Or}
use Rattle.oc_tree.specs.Calls.{function_place}
use Rattle.oc_tree.specs.Expansion.{expansion}
use Rattle.oc_tree.specs.Weight.{known_of}

abbrev mutual
  -- how many words of the frame a statement takes for the variables and counters that it and those
  -- inside it declare
  pub kind_slots : TKind → ℕ
  kind_slots (let_to m x k r) = 1
  kind_slots (let_array m x k z n) = 1 + n
  kind_slots (if_else c a b) = block_slots a + else_slots b
  kind_slots (for_in x m n b) = 1 + block_slots b
  kind_slots (while_do c n b) = 1 + block_slots b
  kind_slots _ = 0

  -- how many words of the frame the statements of an `else` take
  pub else_slots : TElse → ℕ
  else_slots no_else = 0
  else_slots (else_do b) = block_slots b

  -- how many words of the frame the statements of a block take
  pub block_slots : TBlock → ℕ
  block_slots (block id ss) = stmts_slots ss

  -- how many words of the frame statements take
  pub stmts_slots : TStmts → ℕ
  stmts_slots no_stmts = 0
  stmts_slots (more (stmt id line k) ss) = kind_slots k + stmts_slots ss

-- the two words of a frame that lead back to the caller, which `main` doesn't have
abbrev pub link_words : TFunction → ℕ
link_words f = cond (bytes_eq f.name (codes "main")) 0 2

-- the words of a function's frame: its parameters, the way back, and its variables
abbrev pub frame : TFunction → ℕ
frame f = length f.params + link_words f + block_slots f.body

-- the stack words for an operator: the left result waits for the right side, not for `&&`, `||`
abbrev pub binary_depth : BinaryOp → ℕ → ℕ → ℕ
binary_depth And a b = max a b
binary_depth Or a b = max a b
binary_depth op a b = max a (1 + b)

-- the most stack words that an expression of an expansion takes on top of the frame
abbrev pub expr_depth : TExpr → ℕ
expr_depth (index x e) = 1 + expr_depth e
expr_depth (unary op e) = expr_depth e
expr_depth (binary op a b) = binary_depth op (expr_depth a) (expr_depth b)
expr_depth e = 1

-- the most stack words that an argument takes on top of the frame
abbrev pub arg_depth : TArg → ℕ
arg_depth (value e) = expr_depth e
arg_depth a = 1

-- the most stack words that arguments take on top of the frame; each waits for those behind it
abbrev pub args_depth : TArgs → ℕ
args_depth no_args = 0
args_depth (more_args a rest) = max (arg_depth a) (1 + args_depth rest)

-- the most stack words of a call: its arguments, the stack of the called function, or a result
abbrev pub call_depth : List TFunction → List ℕ → TCall → ℕ
call_depth fs ws (call f args) = max 1 (max (args_depth args) (known_of ws (function_place fs f)))

-- the most stack words that a right side takes on top of the frame
abbrev pub right_depth : List TFunction → List ℕ → TRight → ℕ
right_depth fs ws (right_value e) = expr_depth e
right_depth fs ws (right_sense s) = 1
right_depth fs ws (right_call c) = call_depth fs ws c

abbrev mutual
  -- the most stack words that a statement takes on top of the frame
  pub kind_depth : List TFunction → List ℕ → TKind → ℕ
  kind_depth fs ws (let_to m x k r) = right_depth fs ws r
  kind_depth fs ws (let_array m x k z n) = 3
  kind_depth fs ws (assign x r) = right_depth fs ws r
  kind_depth fs ws (assign_index x e r) = max (right_depth fs ws r) (2 + expr_depth e)
  kind_depth fs ws (assign_deref x r) = max (right_depth fs ws r) 2
  kind_depth fs ws (if_else c a b) =
      max (expr_depth c) (max (block_depth fs ws a) (else_depth fs ws b))
  kind_depth fs ws (for_in x m n b) = max 2 (block_depth fs ws b)
  kind_depth fs ws (while_do c n b) = max (max 2 (expr_depth c)) (block_depth fs ws b)
  kind_depth fs ws (call_only c) = call_depth fs ws c
  kind_depth fs ws (sense_only s) = 1
  kind_depth fs ws (emit p e) = expr_depth e
  kind_depth fs ws (return e) = expr_depth e
  kind_depth fs ws k = 0

  -- the most stack words that an `else` takes on top of the frame
  pub else_depth : List TFunction → List ℕ → TElse → ℕ
  else_depth fs ws no_else = 0
  else_depth fs ws (else_do b) = block_depth fs ws b

  -- the most stack words that a block takes on top of the frame
  pub block_depth : List TFunction → List ℕ → TBlock → ℕ
  block_depth fs ws (block id ss) = stmts_depth fs ws ss

  -- the most stack words that statements take on top of the frame
  pub stmts_depth : List TFunction → List ℕ → TStmts → ℕ
  stmts_depth fs ws no_stmts = 0
  stmts_depth fs ws (more (stmt id line k) ss) = max (kind_depth fs ws k) (stmts_depth fs ws ss)

-- the stack of a function: its frame, and the most words on top of it
abbrev pub function_stack : List TFunction → List ℕ → TFunction → ℕ
function_stack fs ws f = frame f + block_depth fs ws f.body

-- the stacks of functions, where calls go at most so deep
unfoldable pub stacks_to : List TFunction → ℕ → List ℕ
stacks_to fs zero = []
stacks_to fs (suc depth) = map (function_stack fs (stacks_to fs depth)) fs

-- the stacks of a program's functions: calls go no deeper than there are functions, without circles
abbrev pub stacks : TProgram → List ℕ
stacks p = stacks_to (expansion p).functions (length p.functions)

-- the stack of `main`
abbrev pub stack_words : TProgram → ℕ
stack_words p = known_of (stacks p) (function_place p.functions (codes "main"))
