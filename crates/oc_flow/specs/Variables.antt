-- The variables of a function, and what stands for them where the function is called.
use Rattle.std.specs.Prelude.{ℕ, zero, suc, ◌+◌, Bool, true, false, ◌&&◌, List, [], ◌∷◌, ◌++◌, map, length, filter, Option, Some, None, nat_eq, nat_lt}
use Rattle.std.specs.List.{list_any}
use Rattle.std.proofs.Math.ListN.{get_or}
use Rattle.oc_tree.specs.Tree.{TProgram}
use Rattle.oc_tree.specs.declared.tree.VarId.{VarId}
use Rattle.oc_tree.specs.declared.tree.VarId.TheVariants.{Nv, Param, Declared, Returned}
use Rattle.oc_effects.specs.Effects.{TPassed, TCalled, TEffect, effects_at, params_at}

-- two variables of a function are the same
abbrev pub same_variable : VarId → VarId → Bool
same_variable (Nv i) (Nv j) = nat_eq i j
same_variable (Param i) (Param j) = nat_eq i j
same_variable (Declared s) (Declared t) = nat_eq s t
same_variable Returned Returned = true
same_variable _ _ = false

-- a variable is one of these
abbrev pub is_among : VarId → List VarId → Bool
is_among v vs = list_any (same_variable v) vs

-- a variable that may be there is this one
abbrev pub is_variable_of : Option VarId → VarId → Bool
is_variable_of None v = false
is_variable_of (Some w) v = same_variable w v

-- so many numbers from `n` on
abbrev pub from : ℕ → ℕ → List ℕ
from n zero = []
from n (suc count) = n ∷ from (n + 1) count

-- The variables of the function at a place: the nonvolatile ones, which each function has, its parameters, its result,
-- and those that its statements declare.
abbrev pub variables : TProgram → ℕ → List VarId
variables p f =
    map Nv (from 0 (length p.names.nvs)) ++ (map Param (from 0 (length (params_at p f)))
    ++ (Returned ∷ map (λ a. Declared a.stmt) (filter (λ a. a.declares) (effects_at p f))))

-- there is such a function, and this is one of its variables
abbrev pub is_variable : TProgram → ℕ → VarId → Bool
is_variable p f v = nat_lt f (length p.functions) && is_among v (variables p f)

-- a parameter or a nonvolatile variable, which a caller gives
abbrev pub is_given : VarId → Bool
is_given (Nv i) = true
is_given (Param i) = true
is_given _ = false

-- what stands for an argument that isn't there
abbrev pub nothing_passed : TPassed
nothing_passed = record { named = []; lent = None }

-- the argument for the parameter of this number
abbrev pub arg_at : TCalled → ℕ → TPassed
arg_at c i = get_or c.args i nothing_passed

-- At a call, the caller's variable `u` stands for the callee's variable `x`, which begins a flow there: a parameter is
-- what its argument names, and a nonvolatile variable is itself.
abbrev pub begins : TCalled → (x u : VarId) → Bool
begins c (Nv i) u = same_variable (Nv i) u
begins c (Param i) u = is_among u (arg_at c i).named
begins c v u = false

-- At the call of a statement, the caller's variable `v` stands for the callee's variable
-- `y`, which ends a flow there: the result is the variable that the statement sets, a
-- `&mut` parameter is what is lent for it, and a nonvolatile variable is itself.
abbrev pub ends : TEffect → TCalled → (y v : VarId) → Bool
ends a c (Nv i) v = same_variable (Nv i) v
ends a c (Param i) v = is_variable_of (arg_at c i).lent v
ends a c (Declared s) v = false
ends a c Returned v = is_variable_of a.target v
