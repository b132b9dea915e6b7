-- Several steps in one go, behind which nothing was said but by the last.
use Rattle.std.specs.Prelude.{◌≡◌, ℕ, zero, suc, List, [], ◌∷◌, Option, Some, None}
use Rattle.oc_tree.specs.Tree.{TKind, TProgram, TRight}
use Rattle.oc_tree.specs.Marked.{TRegion}
use Rattle.oc_meaning.specs.Store.{Binding, Event, Store, Value}
use Rattle.oc_meaning.specs.Exec.{Returned}
use Rattle.oc_meaning.specs.Cuts.{events_in}
use Rattle.oc_steps.specs.Ages.{join_ages, of_ages}
use Rattle.oc_steps.specs.Steps.{Frame, Goes, Inside, Over, Step, Take, step, step_right, work}
use Rattle.oc_judge.specs.Going.{program_of, regions_of, step_at, work_here}
use Rattle.oc_judge.specs.Stores.{completion_at}
use Rattle.oc_judge.specs.declared.going.Going.{Going}
use Rattle.oc_judge.specs.declared.running.Running.{Running}
use Rattle.oc_judge.specs.declared.store.Completion.{Completion}

-- a step that left these events, and the next one, where it left none
abbrev pub silent : List Event → Step → Step → Step
silent [] now next = next
silent (e ∷ es) now next = now

module _ (p : TProgram) (regions : List TRegion) where
  abbrev pub one_on : Step → Step
  one_on (Goes fs o) = silent (events_in o) (Goes fs o) (step p regions join_ages of_ages fs o)
  one_on s = s

  -- so many steps on, or fewer where something was said or asked before
  abbrev pub on : ℕ → Step → Step
  on zero s = s
  on (suc n) s = one_on (on n s)

  -- some steps on from the one it is the other
  pub record Leads (s t : Step) : Type 0 where
    pub steps : ℕ
    pub is : on steps s ≡ t

-- some steps on it came to this
abbrev pub LeadsTo : Running → Step → Going → List Frame → Store → Type 0
LeadsTo r s g fs σ = Leads (program_of r) (regions_of r) s (step_at g fs σ)

-- it came to this, or no step was left
abbrev pub LeadsOn : Running → Step → Option Going → List Frame → Store → Type 0
LeadsOn r s None fs σ = Over ≡ s
LeadsOn r s (Some g) fs σ = LeadsTo r s g fs σ

-- whatever runs: the work of such a statement is to take the value of this right side
abbrev pub TakesRight : TKind → TRight → Type 0
TakesRight k r =
    (p : TProgram) (regions : List TRegion) (f : Inside) (env : List Binding) (n : ℕ)
    (fs : List Frame) (σ : Store)
    → work p regions join_ages of_ages f env n k fs σ
    ≡ step_right p regions join_ages of_ages f env n r (Take env n k ∷ fs) σ

-- a right side has this value, for which nothing is asked and called
abbrev pub HasValue : List Binding → Store → TRight → Value → Type 0
HasValue env σ r v =
    (p : TProgram) (regions : List TRegion) (f : Inside) (n : ℕ) (fs : List Frame)
    → step_right p regions join_ages of_ages f env n r fs σ ≡ Goes fs (Returned v σ)

-- the right side of such a statement has it
abbrev pub Takes : List Binding → Store → TKind → Value → Type 0
Takes env σ k v =
    (p : TProgram) (regions : List TRegion) (f : Inside) (n : ℕ) (fs : List Frame)
    → work p regions join_ages of_ages f env n k fs σ ≡ Goes (Take env n k ∷ fs) (Returned v σ)

-- the work of a statement came to this, or nothing was done of it
abbrev pub IsWorked : Running
    → Inside → List Binding → ℕ → TKind → List Frame → Store → Option Completion → Store → Type 0
IsWorked r f env n k fs σ None τ = τ ≡ σ
IsWorked r f env n k fs σ (Some o) τ =
    Leads (program_of r) (regions_of r) (work_here r f env n k fs σ) (Goes fs (completion_at o τ))
