-- What a region may overwrite.
use Rattle.std.specs.Prelude.{ℕ, ◌+◌, Bool, false, ◌&&◌, ◌||◌, List, [], ◌∷◌, ◌++◌, map, filter, Option, Some, None, cond}
use Rattle.std.specs.List.{list_any}
use Rattle.oc_tree.specs.Names.{Text}
use Rattle.oc_tree.specs.Tree.{TProgram}
use Rattle.oc_tree.specs.declared.tree.NvDecl.{NvDecl}
use Rattle.oc_tree.specs.declared.tree.Param.{Param}
pub use Rattle.oc_tree.specs.Types.{kind_words as words_of}
use Rattle.oc_tree.specs.declared.tree.VarId.{VarId}
use Rattle.oc_tree.specs.declared.tree.VarId.TheVariants.{Nv, Param as AParam}
use Rattle.oc_tree.specs.declared.said.Target.{Target}
use Rattle.oc_tree.specs.declared.said.Target.TheVariants as targets
use Rattle.oc_tree.specs.Assigned.{first_param, param_assigned, reaches_assign}
use Rattle.oc_tree.specs.Marked.{TRegion, TMarked, covers}
use Rattle.oc_effects.specs.Effects.{TPassed, TCalled, TEffect, effects_at, params_at}
use Rattle.oc_flow.specs.Variables.{is_variable_of}

-- ---- what a statement assigns

-- one of these arguments, the first of which has the number `n` among all parameters, lends the variable to a parameter
-- that is assigned through
abbrev pub lends : TProgram → (n : ℕ) → List TPassed → VarId → Bool
lends p n [] v = false
lends p n (a ∷ rest) v =
    (is_variable_of a.lent v && param_assigned p.functions n) || lends p (n + 1) rest v

-- a call, if there is one, lends the variable to a parameter that is assigned through
abbrev pub call_assigns : TProgram → Option TCalled → VarId → Bool
call_assigns p None v = false
call_assigns p (Some c) v = lends p (first_param p.functions c.function) c.args v

-- a statement assigns the variable, or lends it to a function that assigns it
abbrev pub assigns : TProgram → VarId → TEffect → Bool
assigns p v a = is_variable_of a.target v || call_assigns p a.call v

-- the function that a statement calls, or one that this calls directly or through others, assigns
-- the nonvolatile variable of this name
abbrev pub reaches : TProgram → Option TCalled → Text → Bool
reaches p None x = false
reaches p (Some c) x = reaches_assign p.functions x c.function

-- ---- what a region assigns

-- what the statements of a region do, those inside them too
abbrev pub region_effects : TProgram → TRegion → List TEffect
region_effects p r = filter (λ a. covers p r a.stmt) (effects_at p r.function)

-- a region, or a function that is called in it, assigns the nonvolatile variable of the number `i`
-- and of this name
abbrev pub assigns_nv : TProgram → TRegion → (i : ℕ) → Text → Bool
assigns_nv p r i x = list_any (λ a. assigns p (Nv i) a || reaches p a.call x) (region_effects p r)

-- a region assigns its function's parameter of the number `i`
abbrev pub assigns_param : TProgram → TRegion → (i : ℕ) → Bool
assigns_param p r i = list_any (assigns p (AParam i)) (region_effects p r)

-- ---- the targets

-- the nonvolatile variables that a region assigns, whole; the first one of these has the number `i`
-- and begins at word `base`
abbrev pub nv_targets : TProgram → TRegion → (i base : ℕ) → List Text → List NvDecl → List Target
nv_targets p r i base [] ds = []
nv_targets p r i base (x ∷ xs) [] = []
nv_targets p r i base (x ∷ xs) (d ∷ ds) =
    cond (assigns_nv p r i x) (targets.Nv base d.words ∷ []) []
    ++ nv_targets p r (i + 1) (base + d.words) xs ds

-- the parameters that a region assigns, which are `&mut` ones; the first one of these has the
-- number `i`, which is its slot
abbrev pub param_targets : TProgram → TRegion → (i : ℕ) → List Param → List Target
param_targets p r i [] = []
param_targets p r i (q ∷ qs) =
    cond (assigns_param p r i) (targets.Param i (words_of q.kind) ∷ []) []
    ++ param_targets p r (i + 1) qs

-- what a region may overwrite: nonvolatile variables by their first words, then parameters by their slots
abbrev pub region_targets : TProgram → TRegion → List Target
region_targets p r =
    nv_targets p r 0 0 p.names.nvs p.nv ++ param_targets p r 0 (params_at p r.function)

-- what each region may overwrite
abbrev pub may_write : TMarked → List (List Target)
may_write m = map (region_targets m.program) m.regions
