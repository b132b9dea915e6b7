-- The types of expressions. Only the operator on top counts: what stands below it has types of its
-- own to meet.
use Rattle.std.specs.Prelude.{ℕ, Bool, true, false, ◌==◌, Option, Some, None, cond}
use Rattle.oc_tree.specs.Tree.{TExpr, number, truth, variable, index, deref, unary, binary, sensed, called, TCall, TRight, right_value, right_sense, right_call, TFunction, TProgram}
use Rattle.oc_tree.specs.declared.tree.Scalar.{Scalar}
use Rattle.oc_tree.specs.declared.tree.Scalar.TheVariants as scalars
use Rattle.oc_tree.specs.declared.tree.ValueKind.{ValueKind}
use Rattle.oc_tree.specs.declared.tree.ValueKind.TheVariants as kinds
use Rattle.oc_tree.specs.declared.tree.Passing.{Passing}
use Rattle.oc_tree.specs.declared.tree.Passing.TheVariants as passings
use Rattle.oc_tree.specs.declared.tree.UnaryOp.{UnaryOp}
use Rattle.oc_tree.specs.declared.tree.UnaryOp.TheVariants as unaries
use Rattle.oc_tree.specs.declared.tree.BinaryOp.{BinaryOp}
use Rattle.oc_tree.specs.declared.tree.BinaryOp.TheVariants as binaries
use Rattle.oc_tree.specs.declared.scope.Origin.{Origin}
use Rattle.oc_tree.specs.declared.scope.Origin.TheVariants as origins
use Rattle.oc_tree.specs.declared.scope.Var.{Var}
use Rattle.oc_tree.specs.Calls.{callee}
use Rattle.oc_tree.specs.Scope.{Scope, variable_of, function_named}

-- a parameter is passed by `&` or `&mut`
abbrev pub is_by_reference : Passing → Bool
is_by_reference passings.Value = false
is_by_reference _ = true

-- a variable is a parameter by reference
abbrev pub is_reference : Origin → Bool
is_reference (origins.Param passing) = is_by_reference passing
is_reference _ = false

-- the type of a value of this kind, where that is no array
abbrev pub scalar_of : ValueKind → Option Scalar
scalar_of kinds.Int = Some scalars.Int
scalar_of kinds.Bool = Some scalars.Bool
scalar_of (kinds.Array words) = None

-- how many words a value of this kind has
abbrev pub kind_words : ValueKind → ℕ
kind_words (kinds.Array words) = words
kind_words _ = 1

-- a kind is that of an array
abbrev pub is_array : ValueKind → Bool
is_array (kinds.Array words) = true
is_array _ = false

-- a type is that of numbers
abbrev pub is_int : Option Scalar → Bool
is_int (Some scalars.Int) = true
is_int _ = false

-- a type is that of truth values
abbrev pub is_bool : Option Scalar → Bool
is_bool (Some scalars.Bool) = true
is_bool _ = false

-- both are types, and they are equal
abbrev pub is_same : Option Scalar → Option Scalar → Bool
is_same (Some scalars.Int) t = is_int t
is_same (Some scalars.Bool) t = is_bool t
is_same None t = false

-- two kinds are equal, of arrays with their lengths
abbrev pub is_same_kind : ValueKind → ValueKind → Bool
is_same_kind kinds.Int kinds.Int = true
is_same_kind kinds.Bool kinds.Bool = true
is_same_kind (kinds.Array m) (kinds.Array n) = m == n
is_same_kind _ _ = false

-- the type of a variable's name as a value; none where it is an array or a reference
abbrev pub value_type : Option Var → Option Scalar
value_type None = None
value_type (Some v) = cond (is_reference v.origin) None (scalar_of v.kind)

-- the type behind a reference to a scalar; none where a variable is something else
abbrev pub pointed_type : Option Var → Option Scalar
pointed_type None = None
pointed_type (Some v) = cond (is_reference v.origin) (scalar_of v.kind) None

-- a variable is an array, or a reference to one
abbrev pub has_elements : Option Var → Bool
has_elements None = false
has_elements (Some v) = is_array v.kind

-- the type of a prefix operator's result
abbrev pub unary_type : UnaryOp → Scalar
unary_type unaries.Neg = scalars.Int
unary_type unaries.Not = scalars.Bool

-- an operator is `+`, `-`, `*`, `/` or `%`, whose result is a number
abbrev pub is_arithmetic : BinaryOp → Bool
is_arithmetic binaries.Add = true
is_arithmetic binaries.Sub = true
is_arithmetic binaries.Mul = true
is_arithmetic binaries.Div = true
is_arithmetic binaries.Rem = true
is_arithmetic _ = false

-- the type of an operator's result
abbrev pub binary_type : BinaryOp → Scalar
binary_type op = cond (is_arithmetic op) scalars.Int scalars.Bool

-- the type of a function's result, where there is a function and it has one
abbrev pub result_of : Option TFunction → Option Scalar
result_of None = None
result_of (Some f) = f.result

-- the type of a call's result; none where the function isn't known or has no result
abbrev pub call_type : TProgram → TCall → Option Scalar
call_type p c = result_of (function_named p (callee c))

-- the type of an expression by what stands on top of it; none where a name has none. A number, an
-- element of an array and an input are numbers
abbrev pub type_of : TProgram → Scope → TExpr → Option Scalar
type_of p scope (truth b) = Some scalars.Bool
type_of p scope (variable x) = value_type (variable_of p scope x)
type_of p scope (deref x) = pointed_type (variable_of p scope x)
type_of p scope (unary op e) = Some (unary_type op)
type_of p scope (binary op a b) = Some (binary_type op)
type_of p scope (called c) = call_type p c
type_of p scope e = Some scalars.Int

-- the type of a right side
abbrev pub right_type : TProgram → Scope → TRight → Option Scalar
right_type p scope (right_value e) = type_of p scope e
right_type p scope (right_sense s) = Some scalars.Int
right_type p scope (right_call c) = call_type p c
