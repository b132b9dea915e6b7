-- Which functions call which. A function is told by its place among the functions, from 0.
use Rattle.std.specs.Prelude.{ℕ, ◌+◌, Bool, false, ◌&&◌, not, List, [], ◌∷◌, ◌++◌, map, length, Option, Some, None, cond, option_to_list}
use Rattle.std.specs.Str.{bytes_eq}
use Rattle.std.specs.List.{list_any, flat_map}
use Rattle.std.proofs.Math.ListN.{get_or}
use Rattle.oc_tree.specs.Names.{Text}
use Rattle.oc_tree.specs.Tree.{TExpr, number, truth, variable, index, deref, unary, binary, sensed, called, TArg, value, shared, mutable, TCall, call, TArgs, no_args, more_args}
use Rattle.oc_tree.specs.Tree.{TRight, right_value, right_sense, right_call, TKind, let_to, let_array, assign, assign_index, assign_deref, if_else, for_in, while_do, call_only}
use Rattle.oc_tree.specs.Tree.{sense_only, emit, fresh, consistent, return, TElse, no_else, else_do, stmt, TBlock, block, TStmts, no_stmts, more, TFunction}
use Rattle.oc_tree.specs.declared.tree.Param.{Param}
use Rattle.oc_tree.specs.Reach.{Links, leads, reaches_some}
use Rattle.oc_tree.specs.Mentions.{is_named}

-- the place of the first name of that spelling, where the first of the list has the place `n`
abbrev pub place_from : ℕ → List Text → Text → Option ℕ
place_from n [] x = None
place_from n (y ∷ ys) x = cond (bytes_eq x y) (Some n) (place_from (n + 1) ys x)

-- the place of the first name of that spelling in a list, from 0
abbrev pub place : List Text → Text → Option ℕ
place xs x = place_from 0 xs x

-- the names of functions, in order
abbrev pub function_names : List TFunction → List Text
function_names fs = map (λ f. f.name) fs

-- the function that a name stands for: the first that is called so
abbrev pub function_place : List TFunction → Text → Option ℕ
function_place fs x = place (function_names fs) x

-- the name of the called function
abbrev pub callee : TCall → Text
callee (call f args) = f

-- the arguments of a call
abbrev pub args_of_call : TCall → TArgs
args_of_call (call f args) = args

-- The calls in an expression, in the order in which they end: a call inside an argument comes
-- before the call.
abbrev mutual
  pub expr_calls : TExpr → List TCall
  expr_calls (index x i) = expr_calls i
  expr_calls (unary op e) = expr_calls e
  expr_calls (binary op a b) = expr_calls a ++ expr_calls b
  expr_calls (called c) = call_calls c
  expr_calls e = []

  -- the calls in a call's arguments, and then the call
  pub call_calls : TCall → List TCall
  call_calls (call f args) = args_calls args ++ call f args ∷ []

  -- the calls in arguments, in the order in which they end
  pub args_calls : TArgs → List TCall
  args_calls no_args = []
  args_calls (more_args a rest) = arg_calls a ++ args_calls rest

  -- the calls in an argument
  pub arg_calls : TArg → List TCall
  arg_calls (value e) = expr_calls e
  arg_calls a = []

-- the calls in a right side, itself among them where it is one
abbrev pub right_calls : TRight → List TCall
right_calls (right_value e) = expr_calls e
right_calls (right_sense s) = []
right_calls (right_call c) = call_calls c

-- the calls of a statement itself, also one that is its right side or the whole statement
abbrev pub own_calls : TKind → List TCall
own_calls (let_to m x k r) = right_calls r
own_calls (assign x r) = right_calls r
own_calls (assign_index x i r) = expr_calls i ++ right_calls r
own_calls (assign_deref x r) = right_calls r
own_calls (if_else c a b) = expr_calls c
own_calls (while_do c n b) = expr_calls c
own_calls (call_only c) = call_calls c
own_calls (emit p e) = expr_calls e
own_calls (return e) = expr_calls e
own_calls k = []

-- a variable of this name hides the one that is asked for
abbrev pub hides : Option Text → Text → Bool
hides None y = false
hides (Some x) y = bytes_eq x y

-- a `let` makes a variable that hides the one that is asked for in the rest of its block
abbrev pub kind_hides : Option Text → TKind → Bool
kind_hides of (let_to m y k r) = hides of y
kind_hides of (let_array m y k i n) = hides of y
kind_hides of _ = false

abbrev mutual
  -- a statement and those inside it, in source order; given a name, where no variable hides it
  pub kind_kinds : Option Text → TKind → List TKind
  kind_kinds of (if_else c a b) = if_else c a b ∷ (block_kinds of a ++ else_kinds of b)
  kind_kinds of (for_in x m n b) = for_in x m n b ∷ cond (hides of x) [] (block_kinds of b)
  kind_kinds of (while_do c n b) = while_do c n b ∷ block_kinds of b
  kind_kinds of k = k ∷ []

  -- the statements of an `else` and those inside; given a name, where no variable hides it
  pub else_kinds : Option Text → TElse → List TKind
  else_kinds of no_else = []
  else_kinds of (else_do b) = block_kinds of b

  -- the statements of a block and those inside; given a name, where no variable hides it
  pub block_kinds : Option Text → TBlock → List TKind
  block_kinds of (block id ss) = stmts_kinds of ss

  -- statements and those inside them; given a name, where no variable hides it
  pub stmts_kinds : Option Text → TStmts → List TKind
  stmts_kinds of no_stmts = []
  stmts_kinds of (more (stmt id line k) ss) =
      kind_kinds of k ++ cond (kind_hides of k) [] (stmts_kinds of ss)

-- all calls of a function
abbrev pub body_calls : TFunction → List TCall
body_calls f = flat_map own_calls (block_kinds None f.body)

-- the places of the functions that calls name
abbrev pub called_places : List Text → List TCall → List ℕ
called_places names cs = flat_map (λ c. option_to_list (place names (callee c))) cs

-- which of the functions `fs`, the first of which has the place `u`, calls which
abbrev pub links_from : List Text → ℕ → List TFunction → Links
links_from names u [] = []
links_from names u (f ∷ fs) =
    map (λ v. (u, v)) (called_places names (body_calls f)) ++ links_from names (u + 1) fs

-- which functions call which, by their places
abbrev pub call_links : List TFunction → Links
call_links fs = links_from (function_names fs) 0 fs

-- the function `u` calls the function `v`, directly or through others
abbrev pub calls : List TFunction → ℕ → ℕ → Bool
calls fs u v = leads (call_links fs) (length fs) u v

-- a parameter has the name `x`
abbrev pub has_param : Text → List Param → Bool
has_param x ps = list_any (λ p. bytes_eq x p.name) ps

-- a function names the nonvolatile variable `x`
abbrev pub function_mentions : Text → TFunction → Bool
function_mentions x f =
    not (has_param x f.params) && list_any (is_named x) (block_kinds (Some x) f.body)

-- what a test says of the function at a place
abbrev pub test_at : (TFunction → Bool) → List TFunction → ℕ → Bool
test_at test fs u = get_or (map test fs) u false

-- the function `u`, or one that it calls directly or through others, names the nonvolatile variable
-- `x`
abbrev pub reaches_mention : List TFunction → Text → ℕ → Bool
reaches_mention fs x u =
    reaches_some (call_links fs) (length fs) (test_at (function_mentions x) fs) u
