-- Which nonvolatile variables a function assigns, itself or through references that it passes.
use Rattle.std.specs.Prelude.{ℕ, ◌+◌, Bool, true, false, ◌&&◌, ◌||◌, not, List, [], ◌∷◌, ◌++◌, map, length, Option, Some, None, cond, sum_by, nat_eq, option_map, option_to_list}
use Rattle.std.specs.Str.{bytes_eq}
use Rattle.std.specs.List.{list_any, flat_map}
use Rattle.std.proofs.Math.ListN.{get_or}
use Rattle.oc_tree.specs.Names.{Text}
use Rattle.oc_tree.specs.Tree.{TExpr, variable, TArg, value, shared, mutable, TCall, call, TArgs, no_args, more_args, TKind, assign, assign_index, assign_deref, TFunction}
use Rattle.oc_tree.specs.declared.tree.Passing.{Passing}
use Rattle.oc_tree.specs.declared.tree.Passing.TheVariants.{Value, Shared, Mutable}
use Rattle.oc_tree.specs.Reach.{Links, reaches_some}
use Rattle.oc_tree.specs.Calls.{place, function_place, own_calls, block_kinds, body_calls, call_links, has_param, test_at}

-- a parameter is passed by `&mut`
abbrev pub is_mutable : Passing → Bool
is_mutable Mutable = true
is_mutable _ = false

-- the names of a function's parameters, in order
abbrev pub param_names : TFunction → List Text
param_names f = map (λ p. p.name) f.params

-- The parameters of all functions are numbered through: the numbers of the first ones, where the
-- very first is `n`.
abbrev pub first_params : ℕ → List TFunction → List ℕ
first_params n [] = []
first_params n (f ∷ fs) = n ∷ first_params (n + length f.params) fs

-- the number of the first parameter of the function at `u`
abbrev pub first_param : List TFunction → ℕ → ℕ
first_param fs u = get_or (first_params 0 fs) u 0

-- how many parameters all functions have together
abbrev pub param_count : List TFunction → ℕ
param_count fs = sum_by (λ f. length f.params) fs

-- which parameters of a function are passed by `&mut`, in order
abbrev pub mutable_params : TFunction → List Bool
mutable_params f = map (λ p. is_mutable p.passing) f.params

-- the parameter `i` of the function at `u` is a `&mut` one
abbrev pub takes_mutable : List TFunction → ℕ → ℕ → Bool
takes_mutable fs u i = get_or (get_or (map mutable_params fs) u []) i false

-- the number of parameter `i` of the function at `u`, where that is a `&mut` one
abbrev pub mutable_param : List TFunction → ℕ → ℕ → Option ℕ
mutable_param fs u i = cond (takes_mutable fs u i) (Some (first_param fs u + i)) None

-- the number of the parameter of that name, where parameters are numbered from `first`
abbrev pub own_param : (first : ℕ) → List Text → Option Text → Option ℕ
own_param first params None = None
own_param first params (Some x) = option_map (λ j. first + j) (place params x)

-- the variable's name, where an expression is just that
abbrev pub alone : TExpr → Option Text
alone (variable x) = Some x
alone _ = None

-- the link from one parameter to another, where both are known
abbrev pub link_of : Option ℕ → Option ℕ → Links
link_of (Some a) (Some b) = (a, b) ∷ []
link_of _ _ = []

-- a reference that is passed on, by its name alone, as argument `i` of a call of `v`, to a
-- parameter that takes `&mut`
abbrev pub arg_links : List TFunction → (first : ℕ) → List Text → (v i : ℕ) → TArg → Links
arg_links fs first params v i (value e) =
    link_of (own_param first params (alone e)) (mutable_param fs v i)
arg_links fs first params v i a = []

-- the references that arguments pass on to `&mut` parameters of `v`, from argument `i` on
abbrev pub args_links : List TFunction → (first : ℕ) → List Text → (v i : ℕ) → TArgs → Links
args_links fs first params v i no_args = []
args_links fs first params v i (more_args a rest) =
    arg_links fs first params v i a ++ args_links fs first params v (i + 1) rest

-- the references that arguments pass on to `&mut` parameters of the function at `v`, if any
abbrev pub to_links : List TFunction → (first : ℕ) → List Text → TArgs → Option ℕ → Links
to_links fs first params args None = []
to_links fs first params args (Some v) = args_links fs first params v 0 args

-- the references that a call passes on, in a function with parameters from `first` on
abbrev pub pass_call : List TFunction → (first : ℕ) → List Text → TCall → Links
pass_call fs first params (call f args) = to_links fs first params args (function_place fs f)

-- the references that a function with parameters from `first` on passes on in its calls
abbrev pub function_links : List TFunction → (first : ℕ) → TFunction → Links
function_links fs first f = flat_map (pass_call fs first (param_names f)) (body_calls f)

-- which parameters are passed on to which, where the first of these functions has the place `u`
abbrev pub pass_links_from : List TFunction → (u : ℕ) → List TFunction → Links
pass_links_from all u [] = []
pass_links_from all u (f ∷ fs) =
    function_links all (first_param all u) f ++ pass_links_from all (u + 1) fs

-- which parameters of all functions are passed on to which `&mut` parameters
abbrev pub pass_links : List TFunction → Links
pass_links fs = pass_links_from fs 0 fs

-- the array or the reference that a statement writes through, by its name
abbrev pub written_through : TKind → Option Text
written_through (assign_index x i r) = Some x
written_through (assign_deref x r) = Some x
written_through _ = None

-- the numbers of the parameters that a function writes through itself
abbrev pub function_writes : (first : ℕ) → TFunction → List ℕ
function_writes first f =
    flat_map (λ k. option_to_list (own_param first (param_names f) (written_through k)))
    (block_kinds None f.body)

-- the parameters that functions write through themselves, where the first is at `u`
abbrev pub writes_from : List TFunction → (u : ℕ) → List TFunction → List ℕ
writes_from all u [] = []
writes_from all u (f ∷ fs) = function_writes (first_param all u) f ++ writes_from all (u + 1) fs

-- a function writes through its parameter of the number `n` itself
abbrev pub writes_through : List TFunction → ℕ → Bool
writes_through fs n = list_any (λ x. nat_eq x n) (writes_from fs 0 fs)

-- a function assigns through its parameter of the number `n`, itself or through functions that it
-- passes it on to
abbrev pub param_assigned : List TFunction → ℕ → Bool
param_assigned fs n = reaches_some (pass_links fs) (param_count fs) (writes_through fs) n

-- a parameter has this number, and is assigned through here or where it is passed on to
abbrev pub assigned_number : List TFunction → Option ℕ → Bool
assigned_number fs None = false
assigned_number fs (Some n) = param_assigned fs n

-- `&mut x` as argument `i` of a call of `v`, for a parameter that is assigned through
abbrev pub arg_assigns : List TFunction → Text → (v i : ℕ) → TArg → Bool
arg_assigns fs x v i (mutable y) = bytes_eq x y && assigned_number fs (mutable_param fs v i)
arg_assigns fs x v i a = false

-- an argument, from argument `i` of a call of `v` on, is `&mut x` for a parameter assigned through
abbrev pub args_assign : List TFunction → Text → (v i : ℕ) → TArgs → Bool
args_assign fs x v i no_args = false
args_assign fs x v i (more_args a rest) = arg_assigns fs x v i a || args_assign fs x v (i + 1) rest

-- an argument passes `x` by `&mut` to the function at `v`, if any, and it is assigned there
abbrev pub callee_assigns : List TFunction → Text → TArgs → Option ℕ → Bool
callee_assigns fs x args None = false
callee_assigns fs x args (Some v) = args_assign fs x v 0 args

-- a call passes the variable `x` by `&mut`, and it is assigned there
abbrev pub call_assigns : List TFunction → Text → TCall → Bool
call_assigns fs x (call f args) = callee_assigns fs x args (function_place fs f)

-- a statement assigns the variable `x` or an element of it, by its name
abbrev pub is_target : Text → TKind → Bool
is_target x (assign y r) = bytes_eq x y
is_target x (assign_index y i r) = bytes_eq x y
is_target x _ = false

-- a statement assigns the variable `x`, by its name or by a call that it is passed to
abbrev pub own_assigns : List TFunction → Text → TKind → Bool
own_assigns fs x k = is_target x k || list_any (call_assigns fs x) (own_calls k)

-- a function assigns the nonvolatile variable `x`
abbrev pub function_assigns : List TFunction → Text → TFunction → Bool
function_assigns fs x f =
    not (has_param x f.params) && list_any (own_assigns fs x) (block_kinds (Some x) f.body)

-- the function `u`, or one that it calls, itself or through others, assigns the nonvolatile `x`
abbrev pub reaches_assign : List TFunction → Text → ℕ → Bool
reaches_assign fs x u =
    reaches_some (call_links fs) (length fs) (test_at (function_assigns fs x) fs) u
