-- What the frames mean, and that each step keeps it.
use Rattle.std.specs.Prelude.{ℕ, ℤ, ◌≡◌, List, [], ◌∷◌, ◌++◌, if◌then◌else◌, length}
use Rattle.oc_tree.specs.Marked.{TRegion}
use Rattle.oc_tree.specs.Tree.{TKind, let_to, assign, assign_index, assign_deref, while_do, TProgram, TStmts, TBlock}
use Rattle.oc_tree.specs.Samples.{union}
use Rattle.oc_meaning.specs.Store.{Value, Event, Store, Binding, holding, replaced, held_at, put, made, place_of}
use Rattle.oc_meaning.specs.Eval.{is_zero, element_of, value_of}
use Rattle.oc_meaning.specs.Uses.{is_fresh, is_use, use_samples, begins_use}
use Rattle.oc_meaning.specs.Blocks.{set_home}
use Rattle.oc_meaning.specs.Exec.{Short, Outcome, Went, Returned, Stopped, with_value, then_do, with_result, finished, leave, closed, used, done, element_written, for_turns}
use Rattle.oc_meaning.specs.Exec.{while_turns, in_turn, kind_run, block_run, stmts_run}
use Rattle.oc_meaning.specs.Run.{call_to}
use Rattle.oc_steps.specs.Steps.{Inside, Frame, Rest, Use, Work, Done, Close, Take, Leave, Turns, Loop, Test, Back, Step, Goes, Asks, Over, step, sensed, of_samples}

-- the samples that are still to come, and the events that happened before
abbrev pub with_left : List Event → List ℤ → Store → Store
with_left past t σ = record σ { left = t; events = σ.events ++ past }

abbrev pub with_more : List Event → List ℤ → Outcome → Outcome
with_more past t (Went σ) = Went (with_left past t σ)
with_more past t (Returned v σ) = Returned v (with_left past t σ)
with_more past t (Stopped s σ) = Stopped s (with_left past t σ)

-- what becomes of the value of a right side
abbrev pub give : List Binding → ℕ → TKind → Value → Store → Outcome
give env n (let_to m x k r) v τ = Went (made (holding v) τ)
give env n (assign x r) v τ =
    Went (put τ (place_of env x) (replaced (held_at τ (place_of env x)) v))
give env n (assign_index x e r) v τ =
    with_value (value_of env τ e) n τ (λ i. element_written
    (place_of env x) (element_of (length (held_at τ (place_of env x)).words) i.num) i v n τ)
give env n (assign_deref x r) v τ =
    Went (put τ (place_of env x) (replaced (held_at τ (place_of env x)) v))
give env n k v τ = Went τ

module _ (p : TProgram) (regions : List TRegion) where
  abbrev pub stmts_in : Inside → List Binding → TStmts → Store → Outcome
  stmts_in f = stmts_run p.names regions (call_to p regions f.depth) (set_home f.body)

  abbrev pub block_in : Inside → List Binding → TBlock → Store → Outcome
  block_in f = block_run p.names regions (call_to p regions f.depth) (set_home f.body)

  abbrev pub kind_in : Inside → List Binding → ℕ → TKind → Store → Outcome
  kind_in f = kind_run p.names regions (call_to p regions f.depth) (set_home f.body)

  -- what a frame makes of an outcome
  abbrev pub after : Frame → Outcome → Outcome
  after (Rest f env ss) o = then_do o (stmts_in f env ss)
  after (Use f env n u k) o =
      then_do o (λ σ. kind_in f env n k (used (begins_use (is_fresh env) k) n u σ))
  after (Work f env n k) o = then_do o (kind_in f env n k)
  after (Done is n u) o = finished (done is n u) o
  after (Close r) o = finished (closed r) o
  after (Take env n k) o = with_result o (give env n k)
  after (Leave n) o = leave n o
  after (Turns f x t i b env) o = then_do o (for_turns t i (λ i. block_in f (in_turn x i ∷ env) b))
  after (Loop f env n c t b before) o =
      then_do o (while_turns t n (is_use (is_fresh env) (while_do c 0 b))
      (use_samples env (while_do c 0 b)) (λ τ. value_of env τ c) (block_in f env b) before)
  after (Test f env n c t b all) o =
      then_do o (λ σ. with_value (value_of env σ c) n σ (λ v. if is_zero v.num
      then Went (done (is_use (is_fresh env) (while_do c 0 b)) n all σ)
      else then_do (block_in f env b σ) (while_turns t n (is_use (is_fresh env) (while_do c 0 b))
      (use_samples env (while_do c 0 b)) (λ τ. value_of env τ c) (block_in f env b) all)))
  after (Back v r) o = then_do o (λ σ. Returned v (closed r σ))

  -- what all frames make of it, the first of them first
  abbrev pub resume : List Frame → Outcome → Outcome
  resume [] o = o
  resume (f ∷ fs) o = resume fs (after f o)

  -- Whatever happened before and whatever samples come later, a step keeps what becomes of the run. Where it asks for a
  -- sample, the next one is taken, and the run is short where there is none
  abbrev pub Keeps : Step → List Frame → Outcome → Type 0
  Keeps (Goes fs' o') fs o =
      (past : List Event) (t : List ℤ)
      → resume fs' (with_more past t o') ≡ resume fs (with_more past t o)
  Keeps (Asks s fs' σ) fs o =
      ((past : List Event) (z : ℤ) (t : List ℤ)
      → resume fs' (with_more past t (sensed p regions union of_samples s z σ))
      ≡ resume fs (with_more past (z ∷ t) o))
      × ((past : List Event)
      → resume fs (with_more past [] o) ≡ Stopped Short (with_left past [] σ))
  Keeps Over fs o =
      (past : List Event) (t : List ℤ) → resume fs (with_more past t o) ≡ with_more past t o

abbrev pub StepsKeep : Type 0
StepsKeep =
    (p : TProgram) (regions : List TRegion) (fs : List Frame) (o : Outcome)
    → Keeps p regions (step p regions union of_samples fs o) fs o
