-- What one step says, and what stands where it says nothing.
use Rattle.std.proofs.Common.{◌≡◌, suc, false, List, [], ◌∷◌, length, Some, refl, sym, ap, ◌∙◌}
use Rattle.std.specs.Prelude.{codes}
use Rattle.oc_tree.specs.Tree.{TProgram}
use Rattle.oc_tree.specs.Marked.{TRegion}
use Rattle.oc_meaning.specs.Store.{Store}
use Rattle.oc_meaning.specs.Store as meant
use Rattle.oc_meaning.specs.Exec.{Outcome}
use Rattle.oc_meaning.specs.Run.{first_store}
use Rattle.oc_meaning.specs.Cuts.{events_in}
use Rattle.oc_steps.specs.Steps.{Frame, Step, Goes, Over, step_passed}
use Rattle.oc_steps.specs.Ages.{join_ages, of_ages}
use Rattle.oc_steps.specs.Heard.{cleared}
use Rattle.oc_steps.specs.Fold.{Way, Went_on, Says, Stands, after_step, at_first, start, told_by}
use Rattle.oc_judge.specs.Stores.{completion_at, event_view, told}
use Rattle.oc_judge.specs.Going.{step_at}
use Rattle.oc_judge.specs.Ways.{KeepsRest}
use Rattle.oc_judge.specs.declared.going.Going.{Going}
use Rattle.oc_judge.specs.declared.going.Going.TheVariants as goings
use Rattle.oc_judge.specs.declared.store.Completion.{Completion}
use Rattle.oc_judge.specs.declared.store.Completion.TheVariants as completions
use Rattle.oc_judge.specs.declared.store.Event.{Event}

abbrev pub main_from : TProgram → List TRegion → Step
main_from p rs = step_passed p rs join_ages of_ages (suc (length p.functions)) (codes "main") [] [] (first_store p [])

events_at : (c : Completion) (σ : Store) → events_in (completion_at c σ) ≡ σ.events
events_at completions.Went σ = refl
events_at (completions.Returned v) σ = refl
events_at completions.Trapped σ = refl

cleared_at : (c : Completion) (σ : Store) → cleared (completion_at c σ) ≡ completion_at c (record σ { events = [] })
cleared_at completions.Went σ = refl
cleared_at (completions.Returned v) σ = refl
cleared_at completions.Trapped σ = refl

-- whatever stood before
pub told_same : (w : Way) (gs fs : List Frame) (u o : Outcome) (es : List meant.Event) → told_by (record w { frames = gs; out = u }) fs o es ≡ told_by w fs o es
told_same w gs fs u o [] = refl
told_same w gs fs u o (e ∷ es) = refl

-- something may have been told
pub says_ahead : (w : Way) (fs : List Frame) (c : Completion) (σ : Store)
    → told_by (record w { frames = fs; out = completion_at c σ }) fs (completion_at c σ) σ.events ≡ told_by w fs (completion_at c σ) (events_in (completion_at c σ))
says_ahead w fs c σ = told_same w fs fs (completion_at c σ) (completion_at c σ) σ.events ∙ ap (told_by w fs (completion_at c σ)) (sym (events_at c σ))

-- nothing was
pub goes_ahead : (w : Way) (fs : List Frame) (c : Completion) (σ : Store) → σ.events ≡ []
    → Went_on (record w { frames = fs; out = completion_at c σ }) ≡ told_by w fs (completion_at c σ) (events_in (completion_at c σ))
goes_ahead w fs c σ h = ap (told_by w fs (completion_at c σ)) (sym (events_at c σ ∙ h))

-- it is taken
pub told_ahead : (w : Way) (fs : List Frame) (c : Completion) (σ τ : Store) (e : Event) → told (Some e) ≡ σ.events → τ ≡ record σ { events = [] }
    → Says (event_view e) (record w { frames = fs; out = completion_at c τ }) ≡ told_by (record w { frames = fs; out = completion_at c σ }) fs (completion_at c σ) σ.events
told_ahead w fs c σ τ e t s =
    ap (λ (o : Outcome). Says (event_view e) (record w { frames = fs; out = o })) (ap (completion_at c) s ∙ sym (cleared_at c σ))
    ∙ ap (told_by (record w { frames = fs; out = completion_at c σ }) fs (completion_at c σ)) t

-- the first frames
pub starts : (p : TProgram) (rs : List TRegion) (fs : List Frame) (o : Outcome) → Goes fs o ≡ main_from p rs → record { frames = fs; out = o; sets = []; inside = false; over = false } ≡ at_first p rs
starts p rs fs o e = ap (start p rs []) e

-- a run is told by what a step leaves of it
pub same_rest : (w v : Way) (g : Going) (fs : List Frame) (σ : Store) → KeepsRest w v → after_step v (step_at g fs σ) ≡ after_step w (step_at g fs σ)
same_rest w v (goings.Asks s) fs σ h = refl
same_rest w v (goings.Goes c) fs σ h = by (completion_at c σ) (events_in (completion_at c σ))
  where
    by : (o : Outcome) (es : List meant.Event) → told_by v fs o es ≡ told_by w fs o es
    by o [] = λ i. Went_on (record { frames = fs; out = o; sets = h.sets i; inside = h.inside i; over = h.over i })
    by o (e ∷ es) = λ i. Says e (record { frames = fs; out = cleared o; sets = h.sets i; inside = h.inside i; over = h.over i })

-- no step is left
pub stands : (w v : Way) (s : Step) → Over ≡ s → v ≡ w → Stands v ≡ after_step w s
stands w v s e f = ap Stands f ∙ ap (after_step w) e
