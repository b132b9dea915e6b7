-- What soundness keeps along a run, in a region and outside, and what it takes from the laws beside it.
use Rattle.std.specs.Prelude.{◌≡◌, ◌<◌, ◌≤◌, ◌⊎◌, ℕ, suc, ℤ, Bool, true, List, [], ◌∷◌, length, Option, Some, None, if◌then◌else◌, slice_get}
use Rattle.oc_tree.specs.Names.{Text}
use Rattle.oc_tree.specs.Tree.{TKind, let_to, let_array, if_else, for_in, while_do, TCall, TElse, no_else, else_do, stmt, TBlock, block, TStmts, no_stmts, more, TFunction, TProgram}
use Rattle.oc_tree.specs.declared.tree.VarId.{VarId}
use Rattle.oc_tree.specs.declared.tree.VarId.TheVariants as variables
use Rattle.oc_tree.specs.declared.marked.PolicyKind.TheVariants as kinds
use Rattle.oc_tree.specs.declared.said.Said.{Said}
use Rattle.oc_tree.specs.declared.said.Said.TheVariants.{Sensed, Showed}
use Rattle.oc_tree.specs.declared.said.Shown.TheVariants.{Used, Finished, Tagged}
use Rattle.oc_tree.specs.Places.{Place as Spot, Placed, at_start, behind, in_loop, kind_placed, block_placed, stmts_placed, find_variable, or_nonvolatile}
use Rattle.oc_tree.specs.Marked.{TRegion, TMarked, IsMarked}
use Rattle.oc_meaning.specs.Blocks.{set_home}
use Rattle.oc_meaning.specs.Run.{call_to}
use Rattle.oc_meaning.specs.Uses.{is_fresh}
use Rattle.oc_meaning.specs.Store.{Place, Local, Global, Turn, Nowhere, Event, Store, Binding}
use Rattle.oc_meaning.specs.Exec.{Outcome, Went, Returned, Stopped, Passed, begun_by, ended_by, in_turn, grown, call_run, kind_run, block_run}
use Rattle.oc_effects.specs.Effects.{TCalled, TEffect, effect_of, call_of}
use Rattle.oc_flow.specs.Variables.{same_variable}
use Rattle.oc_tree.specs.Members.{IsOf}
use Rattle.oc_needs.specs.Policies.{policies}
use Rattle.oc_copies.specs.Copies.{HasStored}
use Rattle.oc_copies.specs.Stands.{Stands}
use Rattle.oc_timely.specs.Scopes.{scope_of}
use Rattle.oc_timely.specs.Within.{Where, samples_of, Owns, Came}
use Rattle.oc_timely.specs.Enough.{Target, next_mode, taken_in, is_open, since, AreSince, AreGathered}
use Rattle.oc_timely.specs.Steps.{AreTaken}

-- ---- events that are good but for what earlier annotations of a set gathered

abbrev pub IsFine : Said → Event → List Event → Type 0
IsFine (Sensed s z) e es = e.samples ≡ taken_in es ∷ []
IsFine (Showed (Used n)) e es = AreSince es e.samples
IsFine (Showed (Finished n)) e es = AreSince es e.samples
IsFine (Showed (Tagged n)) e es = AreSince es e.samples
IsFine s e es = Unit {0}

abbrev pub AllFine : List Event → Type 0
AllFine [] = Unit {0}
AllFine (e ∷ es) = IsFine e.said e es × AllFine es

-- and what they gathered: this is left of `AllGood`
abbrev pub IsGathered : TProgram → Said → Event → List Event → Type 0
IsGathered p (Showed (Tagged n)) e es = AreGathered p e es
IsGathered p s e es = Unit {0}

abbrev pub AllGathered : TProgram → List Event → Type 0
AllGathered p [] = Unit {0}
AllGathered p (e ∷ es) = IsGathered p e.said e es × AllGathered p es

abbrev pub FineOut : Outcome → Type 0
FineOut (Went τ) = AllFine τ.events
FineOut (Returned v τ) = AllFine τ.events
FineOut (Stopped s τ) = AllFine τ.events

-- ---- marks along lists of statements

-- of the regions that begin in a list of statements, one begins where none is open, and one ends
-- where it is open
abbrev pub IsStep : (inside begun ended : Option ℕ) → Type 0
IsStep (Some r) (Some q) ended = ⊥
IsStep None None (Some r) = ⊥
IsStep inside begun ended = Unit {0}

-- a list of statements leaves no region open
abbrev pub IsShutMode : Option ℕ → Type 0
IsShutMode None = Unit {0}
IsShutMode (Some r) = ⊥

-- Statements are numbered from `n` on, regions begin and end
-- in one list, and none begins where one of that list is open.
module _ (regions : List TRegion) where
  abbrev mutual
    -- in a statement, whose parts have numbers from `n` on, regions begin and end in one list of
    -- statements
    pub PairedKind : ℕ → TKind → Type 0
    PairedKind n (if_else c a b) = PairedBlock n a × PairedElse n b
    PairedKind n (for_in x c d b) = PairedBlock n b
    PairedKind n (while_do c t b) = PairedBlock n b
    PairedKind n k = Unit {0}

    -- in what an `if` does otherwise, whose numbers begin at `n` or later, regions begin and end in
    -- one list of statements
    pub PairedElse : ℕ → TElse → Type 0
    PairedElse n no_else = Unit {0}
    PairedElse n (else_do b) = PairedBlock n b

    -- in a block, whose numbers begin at `n` or later, regions begin and end in one list of
    -- statements
    pub PairedBlock : ℕ → TBlock → Type 0
    PairedBlock n (block id ss) = PairedStmts n None ss

    -- in statements, whose numbers begin at `n` or later, regions begin and end in one list, and
    -- none is left open
    pub PairedStmts : ℕ → (inside : Option ℕ) → TStmts → Type 0
    PairedStmts n inside no_stmts = IsShutMode inside
    PairedStmts n inside (more (stmt id line k) rest) =
        (n ≤ id) × IsStep inside (begun_by regions id) (ended_by regions id)
        × PairedKind (suc id) k × PairedStmts
        (suc id) (next_mode inside (begun_by regions id) (ended_by regions id)) rest

-- ---- what is seen of variables at a statement

-- Beside what `Owns` says: the function's variables are there from `base` on; a variable that is alive was declared
-- before the statement `n`; nonvolatile ones are where they are everywhere; a name that is annotated as fresh stands
-- for a variable of a policy; and the rules see the names as they stand.
pub record Sees (p : TProgram)
    (f base n : ℕ) (spot : Spot) (env : List Binding) (w : Where) (σ : Store) : Type 0 where
  pub owns : Owns p f base spot env w σ
  pub room : base ≤ length σ.locals
  pub stands : Stands p (scope_of p f spot.variables) env σ
  pub older : (s : ℕ) → (w (variables.Declared s) ≡ Nowhere) ⊎ (s < n)
  pub global : (i : ℕ) → i < length p.names.nvs → w (variables.Nv i) ≡ Global i
  pub fresh : (y : Text) → is_fresh env y ≡ true
      → (x : VarId) × (or_nonvolatile p y (find_variable spot.variables y) ≡ Some x)
      × IsOf (record { function = f; kind = kinds.Fresh x }) (policies p)

-- one variable more is at a place, beside where the others are
abbrev pub with_place : Where → ℕ → Place → Where
with_place w id q v = if same_variable v (variables.Declared id) then q else w v

-- where variables are behind a statement
abbrev pub where_behind : Where → (id : ℕ) → TKind → Store → Where
where_behind w id (let_to m x k r) σ = with_place w id (Local (length σ.locals))
where_behind w id (let_array m x k z n) σ = with_place w id (Local (length σ.locals))
where_behind w id k σ = w

-- ---- what goes on

-- from one store to another no mark was left open, and what is known of the events stays
pub record IsSteady (σ τ : Store) : Type 0 where
  pub taken : AreTaken τ
  pub deep : τ.depth ≡ σ.depth
  pub since : 0 < σ.depth → since τ.events ≡ since σ.events

-- an effect is that of one of these statements
abbrev pub IsEffectAmong : TProgram → List Placed → TEffect → Type 0
IsEffectAmong p bs a = (b : Placed) × IsOf b bs × (a ≡ effect_of p b)

-- a statement and those inside it, where they stand
abbrev pub own_placed : Spot → (id line : ℕ) → TKind → List Placed
own_placed spot id line k =
    record { id = id; line = line; kind = k; at = spot } ∷ kind_placed spot id k

module _ (p : TProgram) (regions : List TRegion) (call : Text → List Passed → Store → Outcome)
    (home : ℤ → ℕ) (f base : ℕ) (body : List Placed) where
  -- these statements are some of the body
  abbrev pub In : List Placed → Type 0
  In bs = (b : Placed) → IsOf b bs → IsOf b body

  -- a statement went through: samples came along the flow of variables, and what is seen behind it
  -- is as it must be
  pub record Goes (spot : Spot) (id line : ℕ) (k : TKind)
      (rest : TStmts) (env : List Binding) (w : Where) (first σ τ : Store) : Type 0 where
    pub came : Came p f base (IsEffectAmong p (own_placed spot id line k)) w (where_behind w id k first) σ τ
    pub sees : Sees p f base
        (suc id) (behind spot id k) (grown k rest env first) (where_behind w id k first) τ
    pub steady : IsSteady σ τ
    pub more : length σ.locals ≤ length τ.locals

  -- What the laws of flow and of marks give at each statement of a function's body, where calls go as `call` does.
  pub record Flows : Type 0 where
    pub goes : (spot : Spot) (id line : ℕ) (k : TKind) (rest : TStmts)
        → In (stmts_placed spot (more (stmt id line k) rest)) → PairedKind regions (suc id) k
        → (env : List Binding) (w : Where) (first σ τ : Store) → length first.locals
        ≡ length σ.locals → Sees p f base id spot env w σ → AreTaken σ → HasStored p σ
        → kind_run p.names regions call home env id k σ ≡ Went τ
        → Goes spot id line k rest env w first σ τ
    -- a block leaves what was before it
    pub block : (spot : Spot) (n : ℕ) (b : TBlock)
        → In (block_placed spot b) → PairedBlock regions n b
        → (env : List Binding) (w : Where) (σ τ : Store) → Sees p f base n spot env w σ → AreTaken σ
        → HasStored p σ → block_run p.names regions call home env b σ ≡ Went τ
        → Came p f base (IsEffectAmong p (block_placed spot b)) w w σ τ
        × IsSteady σ τ × (length τ.locals ≡ length σ.locals)
    -- a turn of a `for`
    pub turn : (spot : Spot) (id line : ℕ) (x : Text) (c d : ℤ) (b : TBlock)
        → IsOf (record { id = id; line = line; kind = for_in x c d b; at = spot }) body
        → (env : List Binding) (w : Where) (σ : Store) (i : ℤ) → Sees p f base id spot env w σ
        → Sees p f base (suc id) (in_loop spot id ((x, variables.Declared id) ∷ []))
        (in_turn x i ∷ env) (with_place w id (Turn i)) σ

-- ---- calls

-- all samples of a variable were taken in the execution that is open
abbrev pub IsTakenHere : Where → Store → VarId → Type 0
IsTakenHere w σ x =
    (j : ℕ) → IsOf j (samples_of σ w x) → (is_open σ.events ≡ true) × (since σ.events ≤ j)

-- What a call adds is fine, where it finds what it needs.
abbrev pub CallFine : (m : TMarked) → (guarded : ℕ → Bool)
    → (Text → List Passed → Store → Outcome) → (home : ℤ → ℕ) → (f base : ℕ) → List Placed → Type 0
CallFine m guarded call home f base body =
    (b : Placed) → IsOf b body
    → (c : TCall) → call_of b.kind ≡ Some c → (env : List Binding) (w : Where) (σ : Store)
    → Sees m.program f base b.id b.at env w σ → AreTaken σ → HasStored m.program σ
    → ((t : TCalled) → (effect_of m.program b).call ≡ Some t
    → guarded t.function ≡ true → is_open σ.events ≡ true)
    → ((x : VarId) → Target m.program f (effect_of m.program b) x → IsTakenHere w σ x)
    → AllFine σ.events → FineOut (call_run m.program.names m.regions call home env b.id σ c)

-- ---- what the law of flow and of marks is to say of each function

-- what the laws of flow and of marks are to say of each function, whatever the depth of calls
abbrev pub AllFlows : Type 0
AllFlows =
    (m : TMarked) → IsMarked m
    → (f : ℕ) (g : TFunction) → slice_get m.program.functions f ≡ Some g → (depth base : ℕ)
    → Flows m.program m.regions (call_to m.program m.regions depth)
    (set_home g.body) f base (block_placed (at_start g) g.body)
