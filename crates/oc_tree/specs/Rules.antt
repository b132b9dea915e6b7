-- The rules, each as a test that says whether it is broken.
use Rattle.std.specs.Prelude.{ℕ, pos, ◌-ℤ◌, Bool, true, false, not, ◌&&◌, ◌||◌, ◌==◌, List, [], ◌∷◌, length, Option, Some, None, codes, cond, is_some, nat_lt, int_lt}
use Rattle.std.specs.Str.{bytes_eq}
use Rattle.std.specs.List.{list_all, list_any}
use Rattle.oc_tree.specs.Names.{Text}
use Rattle.oc_tree.specs.Tree.{TExpr, number, truth, variable, index, deref, unary, binary, sensed, called, TArg, value, shared, mutable, TCall, call, TArgs, no_args, more_args}
use Rattle.oc_tree.specs.Tree.{TRight, right_value, right_sense, right_call, TKind, let_to, let_array, assign, assign_index, assign_deref, if_else, for_in, while_do, call_only}
use Rattle.oc_tree.specs.Tree.{sense_only, emit, fresh, consistent, return, TStmt, stmt, TBlock, block, TStmts, no_stmts, more, TFunction, TProgram}
use Rattle.oc_tree.specs.declared.tree.Scalar.{Scalar}
use Rattle.oc_tree.specs.declared.tree.ValueKind.{ValueKind}
use Rattle.oc_tree.specs.declared.tree.ValueKind.TheVariants as kinds
use Rattle.oc_tree.specs.declared.tree.Passing.{Passing}
use Rattle.oc_tree.specs.declared.tree.Passing.TheVariants as passings
use Rattle.oc_tree.specs.declared.tree.Param.{Param}
use Rattle.oc_tree.specs.declared.tree.UnaryOp.{UnaryOp}
use Rattle.oc_tree.specs.declared.tree.UnaryOp.TheVariants as unaries
use Rattle.oc_tree.specs.declared.tree.BinaryOp.{BinaryOp}
use Rattle.oc_tree.specs.declared.tree.BinaryOp.TheVariants as binaries
use Rattle.oc_tree.specs.declared.before.Before.{Before}
use Rattle.oc_tree.specs.declared.scope.Origin.{Origin}
use Rattle.oc_tree.specs.declared.scope.Origin.TheVariants as origins
use Rattle.oc_tree.specs.declared.scope.Var.{Var}
use Rattle.oc_tree.specs.Pulls.{own_pulls}
use Rattle.oc_tree.specs.Parts.{own_parts}
use Rattle.oc_tree.specs.Mentions.{own_mentions, call_mentions}
use Rattle.oc_tree.specs.Calls.{place, function_place, callee, args_of_call, args_calls, own_calls, call_links, reaches_mention}
use Rattle.oc_tree.specs.Reach.{reaches}
use Rattle.oc_tree.specs.Assigned.{is_mutable, reaches_assign}
use Rattle.oc_tree.specs.Scope.{Scope, variable_in, variable_of, is_variable, is_name_of, is_taken, function_named}
use Rattle.oc_tree.specs.Types.{is_by_reference, is_reference, is_array, scalar_of, is_int, is_bool, is_same, is_same_kind, value_type, pointed_type, has_elements, type_of, right_type, call_type}
use Rattle.oc_tree.specs.Elements.{Here, is_end}
use Rattle.oc_tree.specs.Sizes.{word_limit}

-- ---- names

-- the first place of a name, if any, is before `n`
abbrev pub stands_before : Option ℕ → ℕ → Bool
stands_before None n = false
stands_before (Some i) n = nat_lt i n

-- the name `x` is at the top level already, among as many declarations as `b` counts
abbrev pub declared_before : TProgram → Before → Text → Bool
declared_before p b x =
    stands_before (place p.names.sensors x) b.sensors
    || (stands_before (place p.names.ports x) b.ports || (stands_before (place p.names.nvs x) b.nvs
    || stands_before (function_place p.functions x) b.functions))

-- a statement declares a variable whose name is taken
abbrev pub takes_name : TProgram → Scope → TKind → Bool
takes_name p scope (let_to m x k r) = is_taken p scope x
takes_name p scope (let_array m x k i n) = is_taken p scope x
takes_name p scope (for_in x m n b) = is_taken p scope x
takes_name p scope _ = false

-- the name that an expression itself uses is visible, and of the kind that is needed
abbrev pub part_known : TProgram → Scope → TExpr → Bool
part_known p scope (variable x) = is_variable p scope x
part_known p scope (index x i) = is_variable p scope x
part_known p scope (deref x) = is_variable p scope x
part_known p scope (sensed s) = is_name_of p.names.sensors s
part_known p scope (called c) = is_some (function_place p.functions (callee c))
part_known p scope e = true

-- the name that a statement assigns to, annotates or sends to is visible, and of the kind that is
-- needed
abbrev pub end_known : TProgram → Scope → TKind → Bool
end_known p scope (assign x r) = is_variable p scope x
end_known p scope (assign_index x i r) = is_variable p scope x
end_known p scope (assign_deref x r) = is_variable p scope x
end_known p scope (emit port e) = is_name_of p.names.ports port
end_known p scope (fresh x) = is_variable p scope x
end_known p scope (consistent x n) = is_variable p scope x
end_known p scope k = true

-- the names that a statement itself uses are visible, and of the kinds that are needed
abbrev pub own_known : TProgram → Scope → TKind → Bool
own_known p scope k = end_known p scope k && list_all (part_known p scope) (own_parts k)

-- ---- `main`

-- the name `main`
abbrev pub main : Text
main = codes "main"

-- a name is `main`
abbrev pub is_main : Text → Bool
is_main x = bytes_eq x main

-- `main` with a parameter or a result
abbrev pub main_head : TFunction → Bool
main_head f = is_main f.name && (nat_lt 0 (length f.params) || is_some f.result)

-- a statement itself calls `main`
abbrev pub calls_main : TKind → Bool
calls_main k = list_any (λ c. is_main (callee c)) (own_calls k)

-- no function is called `main`
abbrev pub main_missing : TProgram → Bool
main_missing p = not (list_any (λ f. is_main f.name) p.functions)

-- ---- types

-- a variable, where it is a reference parameter
abbrev pub only_reference : Option Var → Option Var
only_reference None = None
only_reference (Some v) = cond (is_reference v.origin) (Some v) None

-- the reference parameter whose name an expression is, which passes it on
abbrev pub passed_on : TProgram → Scope → TExpr → Option Var
passed_on p scope (variable x) = only_reference (variable_of p scope x)
passed_on p scope _ = None

-- a prefix operator takes an operand of this type
abbrev pub unary_fits : UnaryOp → Option Scalar → Bool
unary_fits unaries.Neg t = is_int t
unary_fits unaries.Not t = is_bool t

-- an operator takes operands of these types
abbrev pub binary_fits : BinaryOp → (left right : Option Scalar) → Bool
binary_fits binaries.Or a b = is_bool a && is_bool b
binary_fits binaries.And a b = is_bool a && is_bool b
binary_fits binaries.Eq a b = is_same a b
binary_fits binaries.Ne a b = is_same a b
binary_fits _ a b = is_int a && is_int b

abbrev mutual
  -- operands are of the types that their operators take, an index is a number into an array, `*`
  -- stands on a reference to a scalar, and a name as a value is a scalar
  pub expr_fits : TProgram → Scope → TExpr → Bool
  expr_fits p scope (variable x) = is_some (value_type (variable_of p scope x))
  expr_fits p scope (index x i) =
      has_elements (variable_of p scope x) && (expr_fits p scope i && is_int (type_of p scope i))
  expr_fits p scope (deref x) = is_some (pointed_type (variable_of p scope x))
  expr_fits p scope (unary op e) = expr_fits p scope e && unary_fits op (type_of p scope e)
  expr_fits p scope (binary op a b) =
      expr_fits p scope a
      && (expr_fits p scope b && binary_fits op (type_of p scope a) (type_of p scope b))
  expr_fits p scope (called c) = call_fits p scope c
  expr_fits p scope e = true

  -- the operands in a call's arguments have the types that their operators take
  pub call_fits : TProgram → Scope → TCall → Bool
  call_fits p scope (call f args) = args_fit p scope args

  -- the operands in arguments have the types that their operators take
  pub args_fit : TProgram → Scope → TArgs → Bool
  args_fit p scope no_args = true
  args_fit p scope (more_args a rest) = arg_fits p scope a && args_fit p scope rest

  -- the operands in an argument have the types that their operators take; a reference parameter may
  -- stand there alone
  pub arg_fits : TProgram → Scope → TArg → Bool
  arg_fits p scope (value e) = is_some (passed_on p scope e) || expr_fits p scope e
  arg_fits p scope a = true

-- the operands in a right side have the types that their operators take
abbrev pub right_fits : TProgram → Scope → TRight → Bool
right_fits p scope (right_value e) = expr_fits p scope e
right_fits p scope (right_sense s) = true
right_fits p scope (right_call c) = call_fits p scope c

-- the operands in a statement itself have the types that their operators take, and what it indexes
-- or follows is an array or a reference
abbrev pub own_fits : TProgram → Scope → TKind → Bool
own_fits p scope (let_to m x k r) = right_fits p scope r
own_fits p scope (assign x r) = right_fits p scope r
own_fits p scope (assign_index x i r) =
    has_elements (variable_of p scope x)
    && (expr_fits p scope i && (is_int (type_of p scope i) && right_fits p scope r))
own_fits p scope (assign_deref x r) =
    is_some (pointed_type (variable_of p scope x)) && right_fits p scope r
own_fits p scope (if_else c a b) = expr_fits p scope c
own_fits p scope (while_do c n b) = expr_fits p scope c
own_fits p scope (call_only c) = call_fits p scope c
own_fits p scope (emit port e) = expr_fits p scope e
own_fits p scope (return e) = expr_fits p scope e
own_fits p scope k = true

-- the type that is written in a `let`, if any, is another one than that of the right side
abbrev pub written_differs : Option ValueKind → Option Scalar → Bool
written_differs None t = false
written_differs (Some kind) t = not (is_same (scalar_of kind) t)

-- the type that is written in a `let`, if any, is no array of so many words
abbrev pub written_array_differs : Option ValueKind → (words : ℕ) → Bool
written_array_differs None words = false
written_array_differs (Some kind) words = not (is_same_kind kind (kinds.Array words))

-- a statement's right side hasn't the type of its target, or a target of `=` is no scalar; `emit`
-- takes a number
abbrev pub sides_differ : TProgram → Scope → TKind → Bool
sides_differ p scope (let_to m x written r) = written_differs written (right_type p scope r)
sides_differ p scope (let_array m x written i n) = written_array_differs written n
sides_differ p scope (assign x r) =
    not (is_same (value_type (variable_of p scope x)) (right_type p scope r))
sides_differ p scope (assign_index x i r) = not (is_int (right_type p scope r))
sides_differ p scope (assign_deref x r) =
    not (is_same (pointed_type (variable_of p scope x)) (right_type p scope r))
sides_differ p scope (emit port e) = not (is_int (type_of p scope e))
sides_differ p scope _ = false

-- the condition of an `if` or `while` is no truth value
abbrev pub condition_is_number : TProgram → Scope → TKind → Bool
condition_is_number p scope (if_else c a b) = not (is_bool (type_of p scope c))
condition_is_number p scope (while_do c n b) = not (is_bool (type_of p scope c))
condition_is_number p scope _ = false

-- ---- calls

-- a variable, if any, is of this kind, whether it is a reference or not
abbrev pub has_kind : ValueKind → Option Var → Bool
has_kind kind None = false
has_kind kind (Some v) = is_same_kind v.kind kind

-- there is a variable, and the way in which it came to be passes the test
abbrev pub origin_is : (Origin → Bool) → Option Var → Bool
origin_is test None = false
origin_is test (Some v) = test v.origin

-- a variable is a parameter by `&mut`
abbrev pub is_mutable_param : Origin → Bool
is_mutable_param (origins.Param passing) = is_mutable passing
is_mutable_param _ = false

-- an argument that is an expression is of its parameter's form and type
abbrev pub value_meets : TProgram → Scope → Passing → ValueKind → TExpr → Bool
value_meets p scope passings.Value kind e = is_same (scalar_of kind) (type_of p scope e)
value_meets p scope passings.Shared kind e = has_kind kind (passed_on p scope e)
value_meets p scope passings.Mutable kind e =
    origin_is is_mutable_param (passed_on p scope e) && has_kind kind (passed_on p scope e)

-- `&x` goes to a parameter by `&` of its kind
abbrev pub shared_meets : Passing → ValueKind → Option Var → Bool
shared_meets passings.Shared kind v = has_kind kind v
shared_meets _ kind v = false

-- `&mut x` goes to a parameter by `&mut` of its kind
abbrev pub mutable_meets : Passing → ValueKind → Option Var → Bool
mutable_meets passings.Mutable kind v = has_kind kind v
mutable_meets _ kind v = false

-- an argument is of its parameter's form and type
abbrev pub arg_meets : TProgram → Scope → Param → TArg → Bool
arg_meets p scope q (value e) = value_meets p scope q.passing q.kind e
arg_meets p scope q (shared x) = shared_meets q.passing q.kind (variable_of p scope x)
arg_meets p scope q (mutable x) = mutable_meets q.passing q.kind (variable_of p scope x)

-- each argument is of its parameter's form and type, as far as there are both
abbrev pub args_meet : TProgram → Scope → List Param → TArgs → Bool
args_meet p scope qs no_args = true
args_meet p scope [] (more_args a rest) = true
args_meet p scope (q ∷ qs) (more_args a rest) = arg_meets p scope q a && args_meet p scope qs rest

-- the arguments of a call, as a list
abbrev pub args_list : TArgs → List TArg
args_list no_args = []
args_list (more_args a rest) = a ∷ args_list rest

-- the arguments of a call, from the left
abbrev pub call_args : TCall → List TArg
call_args c = args_list (args_of_call c)

-- the parameters of a function, or none where it isn't known
abbrev pub params_of : Option TFunction → List Param
params_of None = []
params_of (Some f) = f.params

-- the parameters of the called function
abbrev pub callee_params : TProgram → TCall → List Param
callee_params p c = params_of (function_named p (callee c))

-- a call has as many arguments as the function has parameters, each of its form and type
abbrev pub call_meets : TProgram → Scope → TCall → Bool
call_meets p scope c =
    (length (callee_params p c) == length (call_args c))
    && args_meet p scope (callee_params p c) (args_of_call c)

-- a statement has a call whose arguments don't go with the parameters in number, form or type
abbrev pub args_differ : TProgram → Scope → TKind → Bool
args_differ p scope k = not (list_all (call_meets p scope) (own_calls k))

-- the calls of a statement whose results are used
abbrev pub used_calls : TKind → List TCall
used_calls (call_only c) = args_calls (args_of_call c)
used_calls k = own_calls k

-- a statement uses the value of a call of a function without a result
abbrev pub result_missing : TProgram → TKind → Bool
result_missing p k = not (list_all (λ c. is_some (call_type p c)) (used_calls k))

-- ---- arrays

-- an array has less than 1 or more than 65,536 elements
abbrev pub is_bad_length : ℕ → Bool
is_bad_length n = nat_lt n 1 || nat_lt word_limit n

-- a type is an array of less than 1 or more than 65,536 elements
abbrev pub has_bad_length : ValueKind → Bool
has_bad_length (kinds.Array words) = is_bad_length words
has_bad_length _ = false

-- the type that is written in a `let`, if any, is an array of a bad length
abbrev pub written_bad_length : Option ValueKind → Bool
written_bad_length None = false
written_bad_length (Some kind) = has_bad_length kind

-- a `let` makes or names an array of less than 1 or more than 65,536 elements
abbrev pub let_bad_length : TKind → Bool
let_bad_length (let_to m x written r) = written_bad_length written
let_bad_length (let_array m x written i n) = written_bad_length written || is_bad_length n
let_bad_length _ = false

-- a parameter is an array by value
abbrev pub is_array_value : Param → Bool
is_array_value q = not (is_by_reference q.passing) && is_array q.kind

-- ---- what may be written to, and by which form

-- a variable is a `let mut` or a nonvolatile one
abbrev pub is_writable : Origin → Bool
is_writable (origins.Let mut id _) = mut
is_writable origins.Nv = true
is_writable _ = false

-- an array may be written to: a `let mut`, a nonvolatile one, or a parameter by `&mut`
abbrev pub is_writable_array : Origin → Bool
is_writable_array o = is_writable o || is_mutable_param o

-- a variable is no reference
abbrev pub is_own : Origin → Bool
is_own o = not (is_reference o)

-- the target of `x = ..` is neither a `let mut` nor a nonvolatile variable
abbrev pub target_fixed : TProgram → Scope → TKind → Bool
target_fixed p scope (assign x r) = not (origin_is is_writable (variable_of p scope x))
target_fixed p scope _ = false

-- the target of `a[i] = ..` is no array that may be written to
abbrev pub array_fixed : TProgram → Scope → TKind → Bool
array_fixed p scope (assign_index x i r) = not (origin_is is_writable_array (variable_of p scope x))
array_fixed p scope _ = false

-- the target of `*r = ..` is no parameter by `&mut`
abbrev pub pointee_fixed : TProgram → Scope → TKind → Bool
pointee_fixed p scope (assign_deref x r) = not (origin_is is_mutable_param (variable_of p scope x))
pointee_fixed p scope _ = false

-- ---- references

-- an argument takes `&mut` of what may be written, and `&` of what is no reference
abbrev pub arg_lends : TProgram → Scope → TArg → Bool
arg_lends p scope (value e) = true
arg_lends p scope (shared x) = origin_is is_own (variable_of p scope x)
arg_lends p scope (mutable x) = origin_is is_writable (variable_of p scope x)

-- a statement has a call that takes `&mut` of what may not be written, or `&` of a reference
abbrev pub lends_fixed : TProgram → Scope → TKind → Bool
lends_fixed p scope k =
    not (list_all (λ c. list_all (arg_lends p scope) (call_args c)) (own_calls k))

-- the name that stands alone in an expression, if any, passes the test
abbrev pub lone_is : (Text → Bool) → TExpr → Bool
lone_is test (variable x) = test x
lone_is test _ = true

-- the name that an expression passes on by `&mut`, if any, passes the test
abbrev pub value_lent_is : (Text → Bool) → Passing → TExpr → Bool
value_lent_is test passings.Mutable e = lone_is test e
value_lent_is test _ e = true

-- the name that an argument passes by `&mut`, if any, passes the test
abbrev pub lent_is : (Text → Bool) → Param → TArg → Bool
lent_is test q (value e) = value_lent_is test q.passing e
lent_is test q (shared x) = true
lent_is test q (mutable x) = test x

-- the names that arguments pass by `&mut` to these parameters pass the test
abbrev pub all_lent : (Text → Bool) → List Param → TArgs → Bool
all_lent test qs no_args = true
all_lent test [] (more_args a rest) = true
all_lent test (q ∷ qs) (more_args a rest) = lent_is test q a && all_lent test qs rest

-- the names that a call passes by `&mut` pass the test
abbrev pub call_lends : (Text → Bool) → TProgram → TCall → Bool
call_lends test p c = all_lent test (callee_params p c) (args_of_call c)

-- what a call passes by `&mut` is named once in its arguments, just there
abbrev pub lends_alone : TProgram → TCall → Bool
lends_alone p c = call_lends (λ x. call_mentions x c == 1) p c

-- what a call of a statement passes by `&mut` is named elsewhere in its arguments too
abbrev pub lent_twice : TProgram → TKind → Bool
lent_twice p k = not (list_all (lends_alone p) (own_calls k))

-- ---- annotations, returns and loops

-- a variable was declared by a `let` directly in the block `within`
abbrev pub is_let_in : (within : ℕ) → Origin → Bool
is_let_in within (origins.Let mut id b) = b == within
is_let_in within _ = false

-- a statement annotates what no `let` directly in this block declared
abbrev pub annotates_other : Here → TKind → Bool
annotates_other h (fresh x) = not (origin_is (is_let_in h.block) (variable_in h.scope x))
annotates_other h (consistent x n) = not (origin_is (is_let_in h.block) (variable_in h.scope x))
annotates_other h _ = false

-- a statement is a `return`
abbrev pub is_return : TStmt → Bool
is_return (stmt id line (return e)) = true
is_return _ = false

-- the last of these statements is a `return`
abbrev pub stmts_return : TStmts → Bool
stmts_return no_stmts = false
stmts_return (more s ss) = cond (is_end ss) (is_return s) (stmts_return ss)

-- the last statement of a block is a `return`
abbrev pub block_returns : TBlock → Bool
block_returns (block id ss) = stmts_return ss

-- a function with a result whose last statement is no `return`
abbrev pub return_missing : TFunction → Bool
return_missing f = is_some f.result && not (block_returns f.body)

-- a `return` that isn't the last statement of a function with a result of that type
abbrev pub returns_elsewhere : TProgram → Here → TKind → Bool
returns_elsewhere p h (return e) = not (h.last && is_same h.function.result (type_of p h.scope e))
returns_elsewhere p h _ = false

-- a `for` or `while` has more than 65,535 turns
abbrev pub has_many_turns : TKind → Bool
has_many_turns (for_in x from to b) = int_lt (pos 65535) (to -ℤ from)
has_many_turns (while_do c bound b) = nat_lt 65535 bound
has_many_turns _ = false

-- ---- calls and nonvolatile variables

-- a variable is a nonvolatile one
abbrev pub is_nv : Origin → Bool
is_nv origins.Nv = true
is_nv _ = false

-- the name `x` stands for a nonvolatile variable
abbrev pub passes_nv : TProgram → Scope → Text → Bool
passes_nv p scope x = origin_is is_nv (variable_of p scope x)

-- an argument passes a nonvolatile variable by reference to the function `u`, which names it too or
-- calls one that does
abbrev pub arg_exposes : TProgram → Scope → (u : ℕ) → TArg → Bool
arg_exposes p scope u (value e) = false
arg_exposes p scope u (shared x) = passes_nv p scope x && reaches_mention p.functions x u
arg_exposes p scope u (mutable x) = passes_nv p scope x && reaches_mention p.functions x u

-- there is a place, and it passes the test
abbrev pub at_place : (ℕ → Bool) → Option ℕ → Bool
at_place test None = false
at_place test (Some u) = test u

-- the place of the called function passes the test
abbrev pub callee_is : (ℕ → Bool) → TProgram → TCall → Bool
callee_is test p c = at_place test (function_place p.functions (callee c))

-- a call passes a nonvolatile variable by reference to a function that reaches its name
abbrev pub call_exposes : TProgram → Scope → TCall → Bool
call_exposes p scope c = callee_is (λ u. list_any (arg_exposes p scope u) (call_args c)) p c

-- a call of a statement passes a nonvolatile variable by reference to where it is named
abbrev pub exposes_nv : TProgram → Scope → TKind → Bool
exposes_nv p scope k = list_any (call_exposes p scope) (own_calls k)

-- the function `u` is that with the number `n`, or calls it directly or through others
abbrev pub back_to : TProgram → (n u : ℕ) → Bool
back_to p n u = reaches (call_links p.functions) (length p.functions) u n

-- a called function is the caller, which has the number `n`, or calls it directly or through others
abbrev pub calls_back : TProgram → (n : ℕ) → TKind → Bool
calls_back p n k = list_any (callee_is (back_to p n) p) (own_calls k)

-- what a call passes by `&mut` is named once in the statement, just there
abbrev pub lends_apart : TProgram → TKind → TCall → Bool
lends_apart p k c = call_lends (λ x. own_mentions x k == 1) p c

-- a nonvolatile variable stands in a statement that calls a function which assigns it, or calls one
-- that does
abbrev pub nv_disturbed : TProgram → TKind → Text → Bool
nv_disturbed p k x =
    nat_lt 0 (own_mentions x k)
    && list_any (callee_is (reaches_assign p.functions x) p) (own_calls k)

-- a statement has a pull, and what a call of it passes by `&mut`, or a nonvolatile variable that
-- one assigns, stands elsewhere in it too
abbrev pub pulls_disturb : TProgram → TKind → Bool
pulls_disturb p k =
    nat_lt 0 (own_pulls k)
    && (not (list_all (lends_apart p k) (own_calls k)) || list_any (nv_disturbed p k) p.names.nvs)
