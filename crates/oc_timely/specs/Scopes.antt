-- The scope of the rules, told by the variables that names stand for.
use Rattle.std.specs.Prelude.{ℕ, [], ◌∷◌, ◌++◌, Option, Some, None, slice_get}
use Rattle.oc_tree.specs.Tree.{TKind, let_to, let_array, TProgram}
use Rattle.oc_tree.specs.declared.tree.Param.{Param}
use Rattle.oc_tree.specs.declared.tree.VarId.{VarId}
use Rattle.oc_tree.specs.declared.tree.VarId.TheVariants as variables
use Rattle.oc_tree.specs.declared.tree.ValueKind.TheVariants as kinds
use Rattle.oc_tree.specs.declared.scope.Origin.TheVariants as origins
use Rattle.oc_tree.specs.declared.scope.Var.{Var}
use Rattle.oc_tree.specs.Scope.{Scope, param_var}
use Rattle.oc_tree.specs.Elements.{kind_of, turn_var}
use Rattle.oc_tree.specs.Types.{right_type}
use Rattle.oc_tree.specs.Places.{Placed, Variables, placed}
use Rattle.oc_effects.specs.Effects.{params_at}

-- the variable that a statement declares where this scope is visible
abbrev pub declared_var : TProgram → Scope → (id block : ℕ) → TKind → Var
declared_var p scope id block (let_to m x t r) =
    record { origin = origins.Let m id block; kind = kind_of (right_type p scope r) }
declared_var p scope id block (let_array m x t z n) =
    record { origin = origins.Let m id block; kind = kinds.Array n }
declared_var p scope id block k = turn_var

-- the variable that a statement declares, where it is there
abbrev pub var_declared : TProgram → Scope → Option Placed → Var
var_declared p scope None = turn_var
var_declared p scope (Some q) = declared_var p scope q.id q.at.block q.kind

-- the variable of a parameter, where it is there
abbrev pub var_passed : Option Param → Var
var_passed None = turn_var
var_passed (Some q) = param_var q

-- the rules' variable for a variable of the function `f`
abbrev pub var_of : TProgram → (f : ℕ) → Scope → VarId → Var
var_of p f scope (variables.Param i) = var_passed (slice_get (params_at p f) i)
var_of p f scope (variables.Declared s) = var_declared p scope (placed p s)
var_of p f scope v = turn_var

-- the scope where these variables are visible, behind another scope
abbrev pub scope_from : TProgram → (f : ℕ) → Scope → Variables → Scope
scope_from p f scope [] = scope
scope_from p f scope (v ∷ vs) = scope_from p f (scope ++ (v.0, var_of p f scope v.1) ∷ []) vs

-- the scope where these variables are visible
abbrev pub scope_of : TProgram → (f : ℕ) → Variables → Scope
scope_of p f vs = scope_from p f [] vs
