-- Where the samples of a variable come from: the run of a function stays within the flow of its variables.
use Rattle.std.specs.Prelude.{◌≡◌, ◌<◌, ◌≤◌, ◌⊎◌, ◌+◌, ℕ, true, List, length, Option, Some, None, slice_get, nat_lt, if◌then◌else◌}
use Rattle.oc_tree.specs.Names.{Text}
use Rattle.oc_tree.specs.Tree.{TFunction, TProgram}
use Rattle.oc_tree.specs.declared.tree.VarId.{VarId}
use Rattle.oc_tree.specs.declared.tree.VarId.TheVariants.{Nv, Param, Returned}
use Rattle.oc_tree.specs.Checked.{Group, IsChecked}
use Rattle.oc_tree.specs.Marked.{TRegion}
use Rattle.oc_tree.specs.Places.{Place as Spot, find_variable, or_nonvolatile}
use Rattle.oc_meaning.specs.Store.{Place, Local, Global, Nowhere, Store, Binding, at, held_at, place_of}
use Rattle.oc_meaning.specs.Exec.{Outcome, Went, Returned as Gave, Stopped, Passed}
use Rattle.oc_effects.specs.Effects.{TEffect, effects_at, params_at}
use Rattle.oc_flow.specs.Variables.{is_variable}
use Rattle.oc_tree.specs.Members.{IsOf}
use Rattle.oc_flow.specs.Relations.{Flow, Brings}
use Rattle.oc_copies.specs.Copies.{own_frame, own_run, HasStored}
use Rattle.oc_copies.specs.Stands.{AreFormed}

-- ---- where variables are

-- where a function has its variables
abbrev pub Where : Type 0
Where = VarId → Place

-- where the variable is that a name stands for, if it stands for one
abbrev pub place_in : Where → Option VarId → Place
place_in w None = Nowhere
place_in w (Some v) = w v

-- the samples on which what a variable holds depends
abbrev pub samples_of : Store → Where → VarId → List ℕ
samples_of σ w v = (held_at σ (w v)).samples

-- where the variables of a function are at its start: its parameters are variables of its own, the
-- first of which is at `base`
abbrev pub start_where : TProgram → (f base : ℕ) → Where
start_where p f base (Nv i) = if nat_lt i (length p.names.nvs) then Global i else Nowhere
start_where p f base (Param j) =
    if nat_lt j (length (params_at p f)) then Local (base + j) else Nowhere
start_where p f base v = Nowhere

-- each name is bound where its variable is, each variable has a
-- place of its own, and those of the function lie above `base`
pub record Owns (p : TProgram)
    (f base : ℕ) (spot : Spot) (env : List Binding) (w : Where) (σ : Store) : Type 0 where
  pub named : (x : Text)
      → place_of env x ≡ place_in w (or_nonvolatile p x (find_variable spot.variables x))
  pub known : (v : VarId) → (w v ≡ Nowhere) ⊎ (is_variable p f v ≡ true)
  pub own : (v : VarId) (l : ℕ) → w v ≡ Local l → (base ≤ l) × (l < length σ.locals)
  pub apart : (u v : VarId) (l : ℕ) → w u ≡ Local l → w v ≡ Local l → u ≡ v
  pub stored : (v : VarId) (i : ℕ) → w v ≡ Global i → v ≡ Nv i
  pub result : w Returned ≡ Nowhere

-- ---- where samples come from

-- A sample j of v: it was there before, in a variable that flows into v, or a statement of P has brought it since.
pub data Comes (p : TProgram) (f : ℕ)
    (P : TEffect → Type 0) (S : VarId → List ℕ) (taken : ℕ) (v : VarId) (j : ℕ) : Type 0 where
  old : (u : VarId) → IsOf j (S u) → Flow p f u v → Comes p f P S taken v j
  new : (a : TEffect) (u : VarId)
      → P a → Brings p f a u → Flow p f u v → taken ≤ j → Comes p f P S taken v j

-- the statements of a function
abbrev pub AnyOf : TProgram → ℕ → TEffect → Type 0
AnyOf p f a = IsOf a (effects_at p f)

-- Where the samples of each variable come from, from one store to another. Variables below `base` are as they were.
pub record Came
    (p : TProgram) (f base : ℕ) (P : TEffect → Type 0) (w w' : Where) (σ τ : Store) : Type 0 where
  pub within : (v : VarId) (j : ℕ)
      → IsOf j (samples_of τ w' v) → Comes p f P (samples_of σ w) σ.taken v j
  pub later : σ.taken ≤ τ.taken
  pub stored : length τ.nv ≡ length σ.nv
  pub below : (l : ℕ) → l < base → at τ.locals l ≡ at σ.locals l

-- where the samples of each variable come from behind what came of a run, and those of a value that
-- it returned, which goes to the result
abbrev pub CameBack : TProgram
    → (f base : ℕ) → (TEffect → Type 0) → (w w' : Where) → Store → Outcome → Type 0
CameBack p f base P w w' σ (Went τ) = Came p f base P w w' σ τ
CameBack p f base P w w' σ (Gave v τ) =
    Came p f base P w w' σ τ
    × ((j : ℕ) → IsOf j v.samples → Comes p f P (samples_of σ w) σ.taken Returned j)
CameBack p f base P w w' σ (Stopped s τ) = Unit {0}

-- Each run of a function over variables of its own stays within
-- the flow of its variables and what its statements bring.
abbrev pub WithinFlow : Type 0
WithinFlow =
    (p : TProgram) (groups : List Group) → IsChecked p groups
    → (regions : List TRegion) (depth f : ℕ) (g : TFunction) → slice_get p.functions f ≡ Some g
    → (ps : List Passed) (σ : Store) → HasStored p σ → AreFormed g.params ps
    → CameBack p f (length σ.locals) (AnyOf p f) (start_where p f (length σ.locals))
    (start_where p f (length σ.locals)) (record σ { locals = (own_frame p g ps σ).locals })
    (own_run p regions depth g ps σ)
