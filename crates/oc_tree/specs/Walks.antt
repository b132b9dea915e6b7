-- What statements name, by recursion over the tree, as code goes: each word here is one of Parts,
-- Mentions, Rules or Pulls that asks the list of all expressions in a statement.
use Rattle.std.specs.Prelude.{ℕ, ◌+◌, Bool, true, false, ◌&&◌, ◌||◌, List, [], ◌∷◌, ◌++◌, is_some, nat_lt}
use Rattle.std.specs.Str.{bytes_eq}
use Rattle.oc_tree.specs.Names.{Text}
use Rattle.oc_tree.specs.Tree.{TExpr, number, truth, variable, index, deref, unary, binary, sensed, called, TArg, value, shared, mutable, TCall, call, TArgs, no_args, more_args}
use Rattle.oc_tree.specs.Tree.{TRight, right_value, right_sense, right_call, TKind, let_to, let_array, assign, assign_index, assign_deref, if_else, for_in, while_do, call_only}
use Rattle.oc_tree.specs.Tree.{sense_only, emit, fresh, consistent, return, TProgram}
use Rattle.oc_tree.specs.Calls.{function_place}
use Rattle.oc_tree.specs.Scope.{Scope, is_variable, is_name_of}
use Rattle.oc_tree.specs.Pulls.{expr_pulls, may_skip}

-- ---- the variables that are named

abbrev mutual
  -- the variables that an expression names
  pub expr_named : TExpr → List Text
  expr_named (number z) = []
  expr_named (truth b) = []
  expr_named (variable x) = x ∷ []
  expr_named (index x e) = x ∷ expr_named e
  expr_named (deref x) = x ∷ []
  expr_named (unary op e) = expr_named e
  expr_named (binary op a b) = expr_named a ++ expr_named b
  expr_named (sensed s) = []
  expr_named (called c) = call_named c

  -- the variables that an argument names
  pub arg_named : TArg → List Text
  arg_named (value e) = expr_named e
  arg_named (shared x) = x ∷ []
  arg_named (mutable x) = x ∷ []

  -- the variables that the arguments of a call name
  pub call_named : TCall → List Text
  call_named (call f args) = args_named args

  -- the variables that arguments name
  pub args_named : TArgs → List Text
  args_named no_args = []
  args_named (more_args a rest) = arg_named a ++ args_named rest

-- the variables that a right side names
abbrev pub right_named : TRight → List Text
right_named (right_value e) = expr_named e
right_named (right_sense s) = []
right_named (right_call c) = call_named c

-- the variables that a statement itself names, as `own_names` has them
abbrev pub kind_named : TKind → List Text
kind_named (let_to m x k r) = right_named r
kind_named (let_array m x k z n) = []
kind_named (assign x r) = right_named r
kind_named (assign_index x e r) = expr_named e ++ right_named r
kind_named (assign_deref x r) = right_named r
kind_named (if_else c a b) = expr_named c
kind_named (for_in x c d b) = []
kind_named (while_do c n b) = expr_named c
kind_named (call_only c) = call_named c
kind_named (sense_only s) = []
kind_named (emit p e) = expr_named e
kind_named (fresh x) = []
kind_named (consistent x k) = []
kind_named (return e) = expr_named e

-- ---- how often a name stands

-- 1 where it holds, else 0
abbrev pub once : Bool → ℕ
once true = 1
once false = 0

abbrev mutual
  -- how often the name `x` stands in an expression, as a variable
  pub expr_mentions : Text → TExpr → ℕ
  expr_mentions x (number n) = 0
  expr_mentions x (truth b) = 0
  expr_mentions x (variable y) = once (bytes_eq x y)
  expr_mentions x (index y i) = once (bytes_eq x y) + expr_mentions x i
  expr_mentions x (deref y) = once (bytes_eq x y)
  expr_mentions x (unary op e) = expr_mentions x e
  expr_mentions x (binary op a b) = expr_mentions x a + expr_mentions x b
  expr_mentions x (sensed s) = 0
  expr_mentions x (called c) = inner_mentions x c

  -- how often the name `x` stands in a call's arguments, as a variable
  pub inner_mentions : Text → TCall → ℕ
  inner_mentions x (call f args) = args_mentions x args

  -- how often the name `x` stands in arguments, as a variable
  pub args_mentions : Text → TArgs → ℕ
  args_mentions x no_args = 0
  args_mentions x (more_args a rest) = arg_mentions x a + args_mentions x rest

  -- how often the name `x` stands in an argument, as a variable
  pub arg_mentions : Text → TArg → ℕ
  arg_mentions x (value e) = expr_mentions x e
  arg_mentions x (shared y) = once (bytes_eq x y)
  arg_mentions x (mutable y) = once (bytes_eq x y)

-- how often the name `x` stands in a right side, as a variable
abbrev pub right_mentions : Text → TRight → ℕ
right_mentions x (right_value e) = expr_mentions x e
right_mentions x (right_sense s) = 0
right_mentions x (right_call c) = inner_mentions x c

-- how often a statement itself names `x`, as `own_mentions` counts it
abbrev pub kind_mentions : Text → TKind → ℕ
kind_mentions x (let_to m y k r) = right_mentions x r
kind_mentions x (let_array m y k i n) = 0
kind_mentions x (assign y r) = right_mentions x r
kind_mentions x (assign_index y i r) = expr_mentions x i + right_mentions x r
kind_mentions x (assign_deref y r) = right_mentions x r
kind_mentions x (if_else c a b) = expr_mentions x c
kind_mentions x (for_in y m n b) = 0
kind_mentions x (while_do c n b) = expr_mentions x c
kind_mentions x (call_only c) = inner_mentions x c
kind_mentions x (sense_only s) = 0
kind_mentions x (emit p e) = expr_mentions x e
kind_mentions x (fresh y) = 0
kind_mentions x (consistent y n) = 0
kind_mentions x (return e) = expr_mentions x e

-- ---- whether what is named is known

abbrev mutual
  -- the names in an expression are visible there, and of the kind that is needed
  pub expr_known : TProgram → Scope → TExpr → Bool
  expr_known p scope (number n) = true
  expr_known p scope (truth b) = true
  expr_known p scope (variable x) = is_variable p scope x
  expr_known p scope (index x i) = is_variable p scope x && expr_known p scope i
  expr_known p scope (deref x) = is_variable p scope x
  expr_known p scope (unary op e) = expr_known p scope e
  expr_known p scope (binary op a b) = expr_known p scope a && expr_known p scope b
  expr_known p scope (sensed s) = is_name_of p.names.sensors s
  expr_known p scope (called c) = call_known p scope c

  -- the called function is known, and so are the names in the arguments
  pub call_known : TProgram → Scope → TCall → Bool
  call_known p scope (call f args) =
      is_some (function_place p.functions f) && args_known p scope args

  -- the names in arguments are visible there, and of the kind that is needed
  pub args_known : TProgram → Scope → TArgs → Bool
  args_known p scope no_args = true
  args_known p scope (more_args a rest) = arg_known p scope a && args_known p scope rest

  -- the names in an argument are visible there, and of the kind that is needed
  pub arg_known : TProgram → Scope → TArg → Bool
  arg_known p scope (value e) = expr_known p scope e
  arg_known p scope (shared x) = is_variable p scope x
  arg_known p scope (mutable x) = is_variable p scope x

-- the names in a right side are visible there, and of the kind that is needed
abbrev pub right_known : TProgram → Scope → TRight → Bool
right_known p scope (right_value e) = expr_known p scope e
right_known p scope (right_sense s) = is_name_of p.names.sensors s
right_known p scope (right_call c) = call_known p scope c

-- the names that a statement itself uses are known, as `own_known` says
abbrev pub kind_known : TProgram → Scope → TKind → Bool
kind_known p scope (let_to m x k r) = right_known p scope r
kind_known p scope (let_array m x k i n) = true
kind_known p scope (assign x r) = is_variable p scope x && right_known p scope r
kind_known p scope (assign_index x i r) =
    is_variable p scope x && (expr_known p scope i && right_known p scope r)
kind_known p scope (assign_deref x r) = is_variable p scope x && right_known p scope r
kind_known p scope (if_else c a b) = expr_known p scope c
kind_known p scope (for_in x m n b) = true
kind_known p scope (while_do c n b) = expr_known p scope c
kind_known p scope (call_only c) = call_known p scope c
kind_known p scope (sense_only s) = is_name_of p.names.sensors s
kind_known p scope (emit port e) = is_name_of p.names.ports port && expr_known p scope e
kind_known p scope (fresh x) = is_variable p scope x
kind_known p scope (consistent x n) = is_variable p scope x
kind_known p scope (return e) = expr_known p scope e

-- ---- whether a pull may be skipped

abbrev mutual
  -- a pull in an expression stands where it may be skipped
  pub expr_skips : TExpr → Bool
  expr_skips (number n) = false
  expr_skips (truth b) = false
  expr_skips (variable x) = false
  expr_skips (index x i) = expr_skips i
  expr_skips (deref x) = false
  expr_skips (unary op e) = expr_skips e
  expr_skips (binary op a b) =
      expr_skips a || expr_skips b || (may_skip op && nat_lt 0 (expr_pulls b))
  expr_skips (sensed s) = false
  expr_skips (called c) = call_skips c

  -- a pull in a call's arguments stands where it may be skipped
  pub call_skips : TCall → Bool
  call_skips (call f args) = args_skip args

  -- a pull in arguments stands where it may be skipped
  pub args_skip : TArgs → Bool
  args_skip no_args = false
  args_skip (more_args a rest) = arg_skips a || args_skip rest

  -- a pull in an argument stands where it may be skipped
  pub arg_skips : TArg → Bool
  arg_skips (value e) = expr_skips e
  arg_skips (shared x) = false
  arg_skips (mutable x) = false

-- a pull in a right side stands where it may be skipped
abbrev pub right_skips : TRight → Bool
right_skips (right_value e) = expr_skips e
right_skips (right_sense s) = false
right_skips (right_call c) = call_skips c

-- a pull of a statement itself stands where it may be skipped, as `own_skips` says
abbrev pub kind_skips : TKind → Bool
kind_skips (let_to m x k r) = right_skips r
kind_skips (let_array m x k i n) = false
kind_skips (assign x r) = right_skips r
kind_skips (assign_index x i r) = expr_skips i || right_skips r
kind_skips (assign_deref x r) = right_skips r
kind_skips (if_else c a b) = expr_skips c
kind_skips (for_in x m n b) = false
kind_skips (while_do c n b) = nat_lt 0 (expr_pulls c)
kind_skips (call_only c) = call_skips c
kind_skips (sense_only s) = false
kind_skips (emit p e) = expr_skips e
kind_skips (fresh x) = false
kind_skips (consistent x n) = false
kind_skips (return e) = expr_skips e
