-- What regions must do for the variables of a function: no input of a target's is taken before its region.
use Rattle.std.specs.Prelude.{◌≡◌, ◌<◌, ◌≤◌, ℕ, suc, ℤ, Bool, true, false, List, [], ◌∷◌, Option, Some, None}
use Rattle.oc_tree.specs.Tree.{TKind, if_else, for_in, while_do, TElse, no_else, else_do, stmt, TBlock, block, TStmts, no_stmts, more, TProgram}
use Rattle.oc_tree.specs.declared.tree.VarId.{VarId}
use Rattle.oc_tree.specs.declared.tree.VarId.TheVariants as variables
use Rattle.oc_tree.specs.declared.marked.Policy.{Policy}
use Rattle.oc_tree.specs.declared.marked.PolicyKind.TheVariants as kinds
use Rattle.oc_tree.specs.Places.{Place as Spot, Placed, behind, in_branch, in_loop, kind_placed}
use Rattle.oc_tree.specs.Marked.{TRegion, TMarked, IsMarked, covers}
use Rattle.oc_meaning.specs.Exec.{begun_by, ended_by}
use Rattle.oc_meaning.specs.Store.{Event}
use Rattle.oc_meaning.specs.Cuts.{events_in}
use Rattle.oc_meaning.specs.Run.{in_order, main_run}
use Rattle.oc_tree.specs.declared.said.Said.{Said}
use Rattle.oc_tree.specs.declared.said.Said.TheVariants.{Sensed, Showed, Entered, Committed}
use Rattle.oc_tree.specs.declared.said.Shown.TheVariants.{Used, Finished, Tagged}
use Rattle.oc_effects.specs.declared.effect.Note.TheVariants as notes
use Rattle.oc_effects.specs.Effects.{TCalled, TEffect, effect_of, effects_at}
use Rattle.oc_flow.specs.Variables.{is_among, begins}
use Rattle.oc_tree.specs.Members.{IsOf}
use Rattle.oc_flow.specs.Relations.{Flow, Brings}
use Rattle.oc_needs.specs.Policies.{policies}
use Rattle.oc_needs.specs.Sites.{is_input, site, is_outside}
use Rattle.oc_needs.specs.Need.{Need}
use Rattle.oc_honest.specs.Timely.{AreTogether}
use Rattle.oc_honest.specs.Held.{ran, AreHeld}
use Rattle.oc_timely.specs.Covering.{IsCovering}

-- ---- targets

-- A variable whose samples must be held at a statement: it is fresh and used there, it is annotated there as of a set,
-- or it stands for what a called function needs.
pub data Target (p : TProgram) (f : ℕ) (a : TEffect) : VarId → Type 0 where
  by_use : {x : VarId} → IsOf (record { function = f; kind = kinds.Fresh x }) (policies p)
      → is_among x a.named ≡ true → Target p f a x
  by_tag : {x : VarId} (k : _) → a.note ≡ Some (notes.Consistent x k) → Target p f a x
  by_call : {x y : VarId} (q : Policy) (c : TCalled) → IsOf q (policies p)
      → a.call ≡ Some c → Need p q c.function y → begins c y x ≡ true → Target p f a x

-- no statement of these brings input that flows into x
abbrev pub Apart : TProgram → ℕ → (TEffect → Type 0) → VarId → Type 0
Apart p f P x = (a : TEffect) (u : VarId) → P a → Brings p f a u → Flow p f u x → ⊥

-- each carrier of such an input is declared in the loop
abbrev pub Calm : TProgram → ℕ → (loop : ℕ) → (TEffect → Type 0) → VarId → Type 0
Calm p f loop P x =
    (a : TEffect) (u w : VarId)
    → P a → Brings p f a u → Flow p f u w → Flow p f w x → is_outside p f loop w ≡ false

-- the regions do what a target at a statement asks for
pub data Met (m : TMarked) (f : ℕ) (a : TEffect) (x : VarId) : Type 0 where
  -- no statement of the function brings input that flows into it
  apart : Apart m.program f (λ b. IsOf b (effects_at m.program f)) x → Met m f a x
  -- one region covers the statement and the sites of all inputs of the target
  covered : (r : TRegion) → IsOf r m.regions → r.function ≡ f → covers m.program r a.stmt ≡ true
      → ((b : TEffect) (u : VarId) → IsOf b (effects_at m.program f) → is_input m.program f b u x
      ≡ true → covers m.program r (site m.program f b u x) ≡ true) → Met m f a x

-- ---- the judgement

-- which region that begins in a list of statements is open behind one of them: `inside` was open
-- before it, and these begin and end with it
abbrev pub next_mode : (inside begun ended : Option ℕ) → Option ℕ
next_mode inside begun (Some r) = None
next_mode inside (Some r) None = Some r
next_mode inside None None = inside

module _ (m : TMarked) (guarded : ℕ → Bool) (f : ℕ) where
  -- the effects of a statement and of those inside it
  abbrev pub InStmt : Spot → (id line : ℕ) → TKind → TEffect → Type 0
  InStmt spot id line k a = (b : Placed)
      × IsOf b (record { id = id; line = line; kind = k; at = spot } ∷ kind_placed spot id k)
      × (a ≡ effect_of m.program b)

  abbrev pub Own : Spot → (id line : ℕ) → TKind → TEffect
  Own spot id line k = effect_of m.program (record { id = id; line = line; kind = k; at = spot })

  -- no call of a guarded function
  abbrev pub Free : TEffect → Type 0
  Free a = (c : TCalled) → a.call ≡ Some c → guarded c.function ≡ false

  abbrev pub AllTargets : (VarId → Type 0) → (TEffect → Type 0) → Type 0
  AllTargets C P = (a : TEffect) (x : VarId) → P a → Target m.program f a x → C x

  -- what is asked of a statement outside of regions: its targets
  -- are clean, where C says what no local input has reached
  abbrev pub OkOwn : (VarId → Type 0) → TEffect → Type 0
  OkOwn C a = ((x : VarId) → Target m.program f a x → C x) × Free a

  -- where a region is open or begins, all targets in the statement must have been clean where it began
  abbrev pub OkStep : (inside begun : Option ℕ) → (first here plain : Type 0) → Type 0
  OkStep (Some r) begun first here plain = first
  OkStep None (Some r) first here plain = here
  OkStep None None first here plain = plain

  abbrev pub OkClean : (inside : Option ℕ)
      → (C0 C : VarId → Type 0) → (begun : Option ℕ) → VarId → Type 0
  OkClean None C0 C (Some r) = C
  OkClean inside C0 C begun = C0

  abbrev mutual
    pub OkKind : (VarId → Type 0) → Spot → (id line : ℕ) → TKind → Type 0
    OkKind C spot id line (if_else c a b) =
        OkBlock C (in_branch spot id) a × OkElse C (in_branch spot id) b
    OkKind C spot id line (for_in x c d b) =
        OkBlock (λ v. C v × Calm m.program f id (λ a. (q : Placed)
        × IsOf q (kind_placed spot id (for_in x c d b)) × (a ≡ effect_of m.program q)) v)
        (in_loop spot id ((x, variables.Declared id) ∷ [])) b
    OkKind C spot id line (while_do c n b) =
        ((x : VarId) → Target m.program f (Own spot id line (while_do c n b)) x
        → Calm m.program f id (λ a. (q : Placed)
        × IsOf q (kind_placed spot id (while_do c n b)) × (a ≡ effect_of m.program q)) x)
        × OkBlock
        (λ v. C v × Calm m.program f id (λ a. (q : Placed)
        × IsOf q (kind_placed spot id (while_do c n b)) × (a ≡ effect_of m.program q)) v)
        (in_loop spot id []) b
    OkKind C spot id line k = Unit {0}

    pub OkElse : (VarId → Type 0) → Spot → TElse → Type 0
    OkElse C spot no_else = Unit {0}
    OkElse C spot (else_do b) = OkBlock C spot b

    pub OkBlock : (VarId → Type 0) → Spot → TBlock → Type 0
    OkBlock C spot (block id ss) = OkStmts None C C (record spot { block = id }) ss

    -- `inside`: a region of this list is open, and `C0` was clean where it began
    pub OkStmts : (inside : Option ℕ) → (C0 C : VarId → Type 0) → Spot → TStmts → Type 0
    OkStmts inside C0 C spot no_stmts = Unit {0}
    OkStmts inside C0 C spot (more (stmt id line k) rest) =
        OkStep inside (begun_by m.regions id)
        (AllTargets C0 (InStmt spot id line k)) (AllTargets C (InStmt spot id line k))
        (OkOwn C (Own spot id line k) × OkKind C spot id line k)
        × OkStmts (next_mode inside (begun_by m.regions id) (ended_by m.regions id))
        (OkClean inside C0 C (begun_by m.regions id))
        (λ v. C v × Apart m.program f (InStmt spot id line k) v) (behind spot id k) rest

-- ---- what it gives: events that are held, the newest first

-- a sample more, where an input is said
abbrev pub sense_count : Said → ℕ → ℕ
sense_count (Sensed s z) n = suc n
sense_count s n = n

-- how many samples were taken in these events, which stand newest first
abbrev pub taken_in : List Event → ℕ
taken_in [] = 0
taken_in (e ∷ es) = sense_count e.said (taken_in es)

-- whether an execution of a region is open behind what is said
abbrev pub open_after : Said → Bool → Bool
open_after (Entered r) inside = true
open_after (Committed r) inside = false
open_after s inside = inside

-- whether an execution of a region is open behind these events, which stand newest first
abbrev pub is_open : List Event → Bool
is_open [] = false
is_open (e ∷ es) = open_after e.said (is_open es)

-- how many samples were taken before the last execution of a region began, where this is said
-- behind these events
abbrev pub since_after : Said → List Event → ℕ → ℕ
since_after (Entered r) es n = taken_in es
since_after s es n = n

-- how many samples were taken before the last execution of a region began
abbrev pub since : List Event → ℕ
since [] = 0
since (e ∷ es) = since_after e.said es (since es)

-- these samples were taken in the execution of a region that is open
abbrev pub AreSince : List Event → List ℕ → Type 0
AreSince es samples =
    (j : ℕ) → IsOf j samples → (is_open es ≡ true) × (since es ≤ j) × (j < taken_in es)

-- the samples of the earlier tags of the same instance of a set were taken in the execution of a
-- region that is open
abbrev pub AreGathered : TProgram → Event → List Event → Type 0
AreGathered p e es = (x : Event) → IsOf x es → AreTogether p x e → AreSince es x.samples

-- an event behind these: an input takes the next sample, and a use or a tag depends on samples that
-- were taken in the execution that is open
abbrev pub IsGood : TProgram → Said → Event → List Event → Type 0
IsGood p (Sensed s z) e es = e.samples ≡ taken_in es ∷ []
IsGood p (Showed (Used n)) e es = AreSince es e.samples
IsGood p (Showed (Finished n)) e es = AreSince es e.samples
IsGood p (Showed (Tagged n)) e es = AreSince es e.samples × AreGathered p e es
IsGood p s e es = Unit {0}

-- each event is good behind those before it; they stand newest first
abbrev pub AllGood : TProgram → List Event → Type 0
AllGood p [] = Unit {0}
AllGood p (e ∷ es) = IsGood p e.said e es × AllGood p es

-- What is to be proved of runs: in each run over marks that cover what is required, each event is good.
abbrev pub RunsAreGood : Type 0
RunsAreGood =
    (m : TMarked) → IsMarked m → IsCovering m
    → (samples : List ℤ) → AllGood m.program (events_in (main_run m.program m.regions samples))

-- What must be held together lies in one execution, where each event is good.
abbrev pub GoodIsHeld : Type 0
GoodIsHeld = (p : TProgram) (es : List Event) → AllGood p es → AreHeld p (ran (in_order es))
