-- A step says one thing at most, and no input, and takes no sample; an input says just itself.
use Rattle.std.specs.Prelude.{◌≡◌, ◌⊎◌, ℕ, List, [], ◌∷◌}
use Rattle.oc_tree.specs.Marked.{TRegion}
use Rattle.oc_tree.specs.Tree.{TProgram}
use Rattle.oc_tree.specs.declared.said.Said.{Said}
use Rattle.oc_tree.specs.declared.said.Said.TheVariants.{Sensed, Ended}
use Rattle.oc_tree.specs.Samples.{union}
use Rattle.oc_meaning.specs.Store.{Event, Store}
use Rattle.oc_meaning.specs.Cuts.{events_in}
use Rattle.oc_meaning.specs.Exec.{Trap, Short, Outcome, Went, Returned, Stopped}
use Rattle.oc_steps.specs.Steps.{Frame, Step, Goes, Asks, Over, step, of_samples}
use Rattle.oc_steps.specs.Heard.{store_in}

abbrev pub IsNoInput : Said → Type 0
IsNoInput (Sensed s z) = ⊥
IsNoInput s = Unit {0}

abbrev pub IsNoEnd : Said → Type 0
IsNoEnd (Ended how) = ⊥
IsNoEnd s = Unit {0}

-- nothing was said, and so many samples were taken
abbrev pub IsSilent : ℕ → Store → Type 0
IsSilent m σ = (σ.events ≡ []) × (σ.taken ≡ m)

-- so many samples were taken, and one thing was said at most, which is no input and no end
abbrev pub AtMostOne : ℕ → ℕ → List Event → Type 0
AtMostOne m taken es =
    (taken ≡ m) × ((es ≡ []) ⊎ ((e : Event) × (es ≡ e ∷ []) × IsNoInput e.said × IsNoEnd e.said))

-- where the run stops, it says that it was trapped
abbrev pub SaysOne : ℕ → Outcome → Type 0
SaysOne m (Went σ) = AtMostOne m σ.taken σ.events
SaysOne m (Returned v σ) = AtMostOne m σ.taken σ.events
SaysOne m (Stopped Trap σ) = (σ.taken ≡ m) × ((e : Event) × (σ.events ≡ e ∷ []) × IsNoInput e.said)
SaysOne m (Stopped Short σ) = ⊥

abbrev pub Little : ℕ → Step → Type 0
Little m (Goes fs o) = SaysOne m o
Little m (Asks s fs σ) = IsSilent m σ
Little m Over = Unit {0}

abbrev pub SaysLittle : Type 0
SaysLittle =
    (p : TProgram) (regions : List TRegion) (fs : List Frame) (o : Outcome)
    → events_in o ≡ [] → Little (store_in o).taken (step p regions union of_samples fs o)
