-- A run under way: what it told over the samples so far, and what is left to do.
use Rattle.std.specs.Prelude.{ℤ, ◌≡◌, List, [], ◌++◌, map}
use Rattle.oc_tree.specs.Marked.{TRegion}
use Rattle.oc_tree.specs.Tree.{TProgram}
use Rattle.oc_tree.specs.declared.said.Said.{Said}
use Rattle.oc_meaning.specs.Store.{Event, Store}
use Rattle.oc_meaning.specs.Exec.{Outcome, Went, Returned, Stopped}
use Rattle.oc_meaning.specs.Run.{in_order, main_run, marked_run, said_in}
use Rattle.oc_meaning.specs.Cuts.{events_in}
use Rattle.oc_items.specs.Reports.{IsPrefixOf}
use Rattle.oc_steps.specs.Steps.{Frame}
use Rattle.oc_steps.specs.Follow.{with_more, resume}

-- the store of it, without its events
abbrev pub cleared : Outcome → Outcome
cleared (Went σ) = Went (record σ { events = [] })
cleared (Returned v σ) = Returned v (record σ { events = [] })
cleared (Stopped s σ) = Stopped s (record σ { events = [] })

abbrev pub store_in : Outcome → Store
store_in (Went σ) = σ
store_in (Returned v σ) = σ
store_in (Stopped s σ) = σ

-- what was said, from the first to the last
abbrev pub said_so_far : List Event → List Said
said_so_far past = map (λ e. e.said) (in_order past)

module _ (p : TProgram) (regions : List TRegion) where
  -- over these samples and any that come later, the run told these events, newest first, and does what is left
  pub record Under (v : List ℤ) (past : List Event) (fs : List Frame) (o : Outcome) : Type 0 where
    pub run : (t : List ℤ) → main_run p regions (v ++ t) ≡ resume p regions fs (with_more past t o)
    pub none : events_in o ≡ []

  -- so far it says this, whatever comes later
  abbrev pub Says : List ℤ → List Said → Type 0
  Says v ss = (t : List ℤ) → IsPrefixOf ss (said_in (marked_run p regions (v ++ t)))
