-- What a region leaves alone: its statements, and the functions that they call, change no nonvolatile variable but its
-- targets.
use Rattle.std.specs.Prelude.{◌≡◌, ◌<◌, ◌==◌, ℕ, ℤ, Bool, true, false, List, [], ◌∷◌, ◌++◌, All, length, take, sum_by, Option, Some, None, slice_get}
use Rattle.std.specs.List.{list_any}
use Rattle.std.proofs.Math.ListN.{get_or}
use Rattle.oc_tree.specs.Names.{Text}
use Rattle.oc_tree.specs.Tree.{stmt, TStmts, no_stmts, more, TFunction, TProgram}
use Rattle.oc_tree.specs.declared.said.Target.{Target}
use Rattle.oc_tree.specs.declared.said.Target.TheVariants as targets
use Rattle.oc_tree.specs.declared.tree.VarId.{VarId}
use Rattle.oc_tree.specs.declared.tree.VarId.TheVariants.{Nv, Param, Declared, Returned}
use Rattle.oc_tree.specs.Places.{Place as Spot, Placed, find_variable, or_nonvolatile, at_start, block_placed, stmts_placed}
use Rattle.oc_tree.specs.Marked.{TRegion, TMarked, is_in_region}
use Rattle.oc_meaning.specs.Store.{Place, Local, Global, Turn, Nowhere, Store, Binding, held_at, place_of}
use Rattle.oc_meaning.specs.Exec.{Outcome, Went, Returned as Gave, Stopped, stmts_run}
use Rattle.oc_meaning.specs.Run.{call_to}

-- ---- statements of a region

-- the numbers of statements, without those that stand inside them
abbrev pub numbers_of : TStmts → List ℕ
numbers_of no_stmts = []
numbers_of (more (stmt id line k) ss) = id ∷ numbers_of ss

-- Statements that follow each other in the region's function, the first of them at the place `at`, and stand directly
-- in the region: all of the region's own, or some of them.
pub record StandIn (p : TProgram) (r : TRegion) (at : Spot) (ss : TStmts) : Type 0 where
  pub function : TFunction
  pub front : List Placed
  pub back : List Placed
  pub there : slice_get p.functions r.function ≡ Some function
  pub stand : block_placed (at_start function) function.body ≡ front ++ (stmts_placed at ss ++ back)
  pub inside : All (λ s. is_in_region p r s ≡ true) (numbers_of ss)

-- ---- what names are bound to

-- a variable that a call made: of a `let`, or of a turn of a `for`
abbrev pub IsMade : Place → Type 0
IsMade (Local l) = Unit {0}
IsMade (Turn z) = Unit {0}
IsMade (Global i) = ⊥
IsMade Nowhere = ⊥

-- where a function finds its variable, if `passed` are the places of its
-- parameters: those of a reference are the places that its caller lent
abbrev pub IsFound : (passed : ℕ → Place) → Option VarId → Place → Type 0
IsFound passed None q = q ≡ Nowhere
IsFound passed (Some (Nv i)) q = q ≡ Global i
IsFound passed (Some (Param j)) q = q ≡ passed j
IsFound passed (Some (Declared s)) q = IsMade q
IsFound passed (Some Returned) q = ⊥

-- each name is bound to the variable that it stands for at a place
abbrev pub Sees : TProgram → Spot → (passed : ℕ → Place) → List Binding → Type 0
Sees p at passed env =
    (x : Text) → IsFound passed (or_nonvolatile p x (find_variable at.variables x)) (place_of env x)

-- ---- targets

-- the first word of the nonvolatile variable i
abbrev pub first_word : TProgram → (i : ℕ) → ℕ
first_word p i = sum_by (λ d. d.words) (take i p.nv)

-- the target is the nonvolatile variable that begins at this word
abbrev pub is_stored : (base : ℕ) → Target → Bool
is_stored base (targets.Nv b len) = b == base
is_stored base (targets.Param slot len) = false

-- the target is what the function was lent for its parameter j
abbrev pub is_lent : (j : ℕ) → Target → Bool
is_lent j (targets.Nv b len) = false
is_lent j (targets.Param slot len) = slot == j

-- the nonvolatile variable i is none of these targets, by itself or as what was lent
pub record IsNoTarget (p : TProgram) (set : List Target) (passed : ℕ → Place) (i : ℕ) : Type 0 where
  pub there : i < length p.names.nvs
  pub own : list_any (is_stored (first_word p i)) set ≡ false
  pub lent : (j : ℕ) → passed j ≡ Global i → list_any (is_lent j) set ≡ false

-- ---- the law

-- the store that statements leave, however they end
abbrev pub store_after : Outcome → Store
store_after (Went σ) = σ
store_after (Gave v σ) = σ
store_after (Stopped s σ) = σ

-- Each region's statements, in a run from any store and with calls of any depth, leave each nonvolatile variable that
-- is none of the region's targets as it was: its words and its samples.
abbrev pub OnlyTargets : TMarked → (sets : List (List Target)) → Type 0
OnlyTargets m sets = (k : ℕ) (r : TRegion) → slice_get m.regions k ≡ Some r
    → (at : Spot) (ss : TStmts) → StandIn m.program r at ss
    → (passed : ℕ → Place) (env : List Binding) → Sees m.program at passed env
    → (depth : ℕ) (home : ℤ → ℕ) (σ : Store) (i : ℕ)
    → IsNoTarget m.program (get_or sets k []) passed i
    → held_at (store_after
    (stmts_run m.program.names m.regions (call_to m.program m.regions depth) home env ss σ))
    (Global i) ≡ held_at σ (Global i)
