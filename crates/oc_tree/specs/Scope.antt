-- The variables in scope, and what names stand for.
use Rattle.std.specs.Prelude.{Bool, false, ◌||◌, List, [], ◌∷◌, ◌++◌, Option, Some, None, cond, is_some, slice_get, option_map, option_and_then}
use Rattle.oc_tree.specs.Names.{Text, named_in}
use Rattle.oc_tree.specs.Tree.{TFunction, TProgram}
use Rattle.oc_tree.specs.declared.tree.NvDecl.{NvDecl}
use Rattle.oc_tree.specs.declared.tree.Param.{Param}
use Rattle.oc_tree.specs.declared.tree.ValueKind.TheVariants as kinds
use Rattle.oc_tree.specs.declared.tree.ValueKind.{ValueKind}
use Rattle.oc_tree.specs.declared.scope.Origin.TheVariants as origins
use Rattle.oc_tree.specs.declared.scope.Var.{Var}
use Rattle.oc_tree.specs.Calls.{place, function_place}

-- parameters, and `let` and `for` variables, in the order of their declarations
abbrev pub Scope : Type 0
Scope = List (Text × Var)

-- the variable of that name among those in scope
abbrev pub variable_in : Scope → Text → Option Var
variable_in scope x = named_in scope x

-- a variable in scope has the name `x`
abbrev pub is_in_scope : Scope → Text → Bool
is_in_scope scope x = is_some (variable_in scope x)

-- ---- names of the top level

-- the name `x` is one of these
abbrev pub is_name_of : List Text → Text → Bool
is_name_of xs x = is_some (place xs x)

-- the first function of this name
abbrev pub function_named : TProgram → Text → Option TFunction
function_named p x = option_and_then (λ i. slice_get p.functions i) (function_place p.functions x)

-- the kind of a nonvolatile variable: an array, or a number
abbrev pub nv_kind : NvDecl → ValueKind
nv_kind d = cond d.array (kinds.Array d.words) kinds.Int

-- a nonvolatile variable as what a name stands for
abbrev pub nv_var : NvDecl → Var
nv_var d = record { origin = origins.Nv; kind = nv_kind d }

-- the nonvolatile variable of this name
abbrev pub nv_named : TProgram → Text → Option Var
nv_named p x = option_map nv_var (option_and_then (λ i. slice_get p.nv i) (place p.names.nvs x))

-- the name `x` is declared somewhere at the top level
abbrev pub is_declared : TProgram → Text → Bool
is_declared p x =
    is_name_of p.names.sensors x || (is_name_of p.names.ports x
    || (is_name_of p.names.nvs x || is_some (function_place p.functions x)))

-- a variable in scope has the name `x` already, or something at the top level has it
abbrev pub is_taken : TProgram → Scope → Text → Bool
is_taken p scope x = is_in_scope scope x || is_declared p x

-- ---- what a name stands for

-- this variable, or where there is none the nonvolatile one of the name `x`
abbrev pub or_nv : TProgram → Text → Option Var → Option Var
or_nv p x (Some v) = Some v
or_nv p x None = nv_named p x

-- the variable that a name stands for: one in scope, or else a nonvolatile one
abbrev pub variable_of : TProgram → Scope → Text → Option Var
variable_of p scope x = or_nv p x (variable_in scope x)

-- the name `x` stands for a variable
abbrev pub is_variable : TProgram → Scope → Text → Bool
is_variable p scope x = is_some (variable_of p scope x)

-- ---- parameters

-- a parameter as what a name stands for
abbrev pub param_var : Param → Var
param_var q = record { origin = origins.Param q.passing; kind = q.kind }

-- the scope with one more parameter
abbrev pub with_param : Scope → Param → Scope
with_param scope q = scope ++ (q.name, param_var q) ∷ []

-- the scope with these parameters, as at the start of a function's body
abbrev pub with_params : Scope → List Param → Scope
with_params scope [] = scope
with_params scope (q ∷ qs) = with_params (with_param scope q) qs

-- the name of a parameter is taken, by an earlier one or at the top level
abbrev pub takes_param : TProgram → Scope → List Param → Bool
takes_param p scope [] = false
takes_param p scope (q ∷ qs) = is_taken p scope q.name || takes_param p (with_param scope q) qs
