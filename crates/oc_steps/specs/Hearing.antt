-- What the steps tell of the marked run.
use Rattle.std.specs.Prelude.{ℕ, ℤ, ◌≡◌, List, [], ◌∷◌, ◌++◌}
use Rattle.oc_tree.specs.Marked.{TRegion}
use Rattle.oc_tree.specs.Tree.{TProgram}
use Rattle.oc_tree.specs.declared.said.Said.{Said}
use Rattle.oc_tree.specs.Samples.{union}
use Rattle.oc_meaning.specs.Store.{Event, Store}
use Rattle.oc_meaning.specs.Exec.{Outcome, Went}
use Rattle.oc_meaning.specs.Run.{AtShort, marked_run, said_in, trace_of}
use Rattle.oc_steps.specs.Steps.{Frame, Goes, Asks, Over, step, sensed, of_samples}
use Rattle.oc_steps.specs.Follow.{with_more}
use Rattle.oc_meaning.specs.Cuts.{events_in}
use Rattle.oc_items.specs.Reports.{IsPrefixOf}
use Rattle.oc_steps.specs.Heard.{Under, Says, cleared, said_so_far}

module _ (p : TProgram) (regions : List TRegion) where
  -- a step goes on
  abbrev pub GoesOn : Type 0
  GoesOn =
      (v : List ℤ) (past : List Event) (fs fs' : List Frame) (o o' : Outcome)
      → Under p regions v past fs o
      → step p regions union of_samples fs o ≡ Goes fs' o'
      → Under p regions v (events_in o' ++ past) fs' (cleared o')

  -- a sample is taken
  abbrev pub TakesOne : Type 0
  TakesOne =
      (v : List ℤ) (past : List Event)
      (fs fs' : List Frame) (o : Outcome) (s : ℕ) (σ : Store) (z : ℤ) → Under p regions v past fs o
      → step p regions union of_samples fs o ≡ Asks s fs' σ
      → Under p regions (v ++ z ∷ []) (events_in (sensed p regions union of_samples s z σ) ++ past) fs'
      (cleared (sensed p regions union of_samples s z σ))

  -- what was told begins the run, whatever samples come later
  abbrev pub BeginsIt : Type 0
  BeginsIt =
      (v : List ℤ) (past : List Event) (fs : List Frame) (o : Outcome)
      → Under p regions v past fs o → Says p regions v (said_so_far past)

  -- where a sample is asked for, the run over those so far is short, and says no more
  abbrev pub IsShort : Type 0
  IsShort =
      (v : List ℤ) (past : List Event) (fs fs' : List Frame) (o : Outcome) (s : ℕ) (σ : Store)
      → Under p regions v past fs o
      → step p regions union of_samples fs o ≡ Asks s fs' σ
      → (said_in (marked_run p regions v) ≡ said_so_far (events_in (Went σ) ++ past))
      × ((marked_run p regions v).ending ≡ AtShort)

  -- where no step is left, the run is what the outcome says
  abbrev pub IsOver : Type 0
  IsOver =
      (v : List ℤ) (past : List Event) (fs : List Frame) (o : Outcome) → Under p regions v past fs o
      → step p regions union of_samples fs o ≡ Over
      → marked_run p regions v ≡ trace_of (with_more past [] o)

-- two things that one run says first are the same
abbrev pub SaysNoOther : Type 0
SaysNoOther =
    (ss all : List Said) (a b : Said)
    → IsPrefixOf (ss ++ a ∷ []) all → IsPrefixOf (ss ++ b ∷ []) all → a ≡ b

pub record Hears : Type 0 where
  pub goes_on : (p : TProgram) (regions : List TRegion) → GoesOn p regions
  pub takes_one : (p : TProgram) (regions : List TRegion) → TakesOne p regions
  pub begins_it : (p : TProgram) (regions : List TRegion) → BeginsIt p regions
  pub is_short : (p : TProgram) (regions : List TRegion) → IsShort p regions
  pub is_over : (p : TProgram) (regions : List TRegion) → IsOver p regions
  pub says_one : SaysNoOther
