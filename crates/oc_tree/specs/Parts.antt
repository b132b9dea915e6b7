-- The expressions in a statement, in one list.
use Rattle.std.specs.Prelude.{List, [], ◌∷◌, ◌++◌}
use Rattle.oc_tree.specs.Tree.{TExpr, number, truth, variable, index, deref, unary, binary, sensed, called, TArg, value, shared, mutable, TCall, call, TArgs, no_args, more_args}
use Rattle.oc_tree.specs.Tree.{TRight, right_value, right_sense, right_call, TKind, let_to, let_array, assign, assign_index, assign_deref, if_else, for_in, while_do, call_only}
use Rattle.oc_tree.specs.Tree.{sense_only, emit, fresh, consistent, return}

abbrev mutual
  -- the expressions in an expression and itself, from the left: before those inside it, but a call
  -- behind its arguments
  pub expr_parts : TExpr → List TExpr
  expr_parts (index x e) = index x e ∷ expr_parts e
  expr_parts (unary op e) = unary op e ∷ expr_parts e
  expr_parts (binary op a b) = binary op a b ∷ (expr_parts a ++ expr_parts b)
  expr_parts (called c) = call_parts c ++ called c ∷ []
  expr_parts e = e ∷ []

  -- the expressions in the arguments of a call
  pub call_parts : TCall → List TExpr
  call_parts (call f args) = args_parts args

  -- the expressions in arguments
  pub args_parts : TArgs → List TExpr
  args_parts no_args = []
  args_parts (more_args a rest) = arg_parts a ++ args_parts rest

  -- the expressions in an argument; `&x` and `&mut x` count as the expression `x`
  pub arg_parts : TArg → List TExpr
  arg_parts (value e) = expr_parts e
  arg_parts (shared x) = variable x ∷ []
  arg_parts (mutable x) = variable x ∷ []

-- the expressions in a right side; an input or a call that is all of it is one, too
abbrev pub right_parts : TRight → List TExpr
right_parts (right_value e) = expr_parts e
right_parts (right_sense s) = sensed s ∷ []
right_parts (right_call c) = expr_parts (called c)

-- the expressions in a statement, without those in the statements inside it
abbrev pub own_parts : TKind → List TExpr
own_parts (let_to m x k r) = right_parts r
own_parts (assign x r) = right_parts r
own_parts (assign_index x i r) = expr_parts i ++ right_parts r
own_parts (assign_deref x r) = right_parts r
own_parts (if_else c a b) = expr_parts c
own_parts (while_do c n b) = expr_parts c
own_parts (call_only c) = expr_parts (called c)
own_parts (sense_only s) = sensed s ∷ []
own_parts (emit p e) = expr_parts e
own_parts (return e) = expr_parts e
own_parts k = []
