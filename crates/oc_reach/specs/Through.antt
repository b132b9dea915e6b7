-- Which functions assign through which of their parameters. A parameter is told by the place of its function, and by
-- its own place among the function's parameters, both from 0.
use Rattle.std.specs.Prelude.{◌≡◌, ◌<◌, ℕ, zero, suc, true, List, [], map, length, Option, Some, None, slice_get}
use Rattle.std.proofs.Math.ListN.{get_or}
use Rattle.oc_tree.specs.Names.{Text}
use Rattle.oc_tree.specs.Tree.{variable, TArg, value, TCall, TArgs, no_args, more_args, TKind, TFunction}
use Rattle.oc_tree.specs.Calls.{place, function_place, callee, args_of_call, block_kinds, body_calls}
use Rattle.oc_tree.specs.Assigned.{param_names, takes_mutable, written_through}
use Rattle.oc_tree.specs.Members.{IsOf}

-- the function at `u` has a parameter `j`
abbrev pub IsParam : List TFunction → (u j : ℕ) → Type 0
IsParam fs u j = j < length (get_or (map (λ f. f.params) fs) u [])

-- the argument `i`
abbrev pub arg_at : TArgs → ℕ → Option TArg
arg_at no_args i = None
arg_at (more_args a rest) zero = Some a
arg_at (more_args a rest) (suc i) = arg_at rest i

-- a statement of the function at `u` writes through its parameter `j`
pub record Writes (fs : List TFunction) (u j : ℕ) : Type 0 where
  pub function : TFunction
  pub at : slice_get fs u ≡ Some function
  pub statement : TKind
  pub inside : IsOf statement (block_kinds None function.body)
  pub name : Text
  pub through : written_through statement ≡ Some name
  pub param : place (param_names function) name ≡ Some j

-- the function at `u` passes its parameter `j`, by its name alone, as argument `i` of a call of the function at `v`,
-- which takes `&mut` there
pub record Passes (fs : List TFunction) (u j v i : ℕ) : Type 0 where
  pub function : TFunction
  pub at : slice_get fs u ≡ Some function
  pub called : TCall
  pub inside : IsOf called (body_calls function)
  pub callee_at : function_place fs (callee called) ≡ Some v
  pub name : Text
  pub argument : arg_at (args_of_call called) i ≡ Some (value (variable name))
  pub param : place (param_names function) name ≡ Some j
  pub mutable : takes_mutable fs v i ≡ true

-- the function at `u` assigns through its parameter `j`: by a
-- statement of its own, or by a function that it passes it on to
pub data AssignsThrough (fs : List TFunction) : (u j : ℕ) → Type 0 where
  itself : {u j : ℕ} → Writes fs u j → AssignsThrough fs u j
  passed_on : {u j v i : ℕ} → Passes fs u j v i → AssignsThrough fs v i → AssignsThrough fs u j
