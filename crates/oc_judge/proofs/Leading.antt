-- Several steps in one go.
use Rattle.std.proofs.Common.{◌≡◌, refl, sym, ap, ◌∙◌, subst, ℕ, zero, suc, Bool, false, List, [], ◌∷◌, Option, None}
use Rattle.oc_tree.specs.Tree.{TKind, TProgram, TStmts}
use Rattle.oc_tree.specs.Marked.{TRegion}
use Rattle.oc_meaning.specs.Store.{Binding, Event, Store, Value}
use Rattle.oc_meaning.specs.Exec.{Outcome, Returned, Went, done, opened, used}
use Rattle.oc_meaning.specs.Cuts.{events_in}
use Rattle.oc_meaning.specs.Uses.{begins_use, is_fresh}
use Rattle.oc_steps.specs.Ages.{join_ages, of_ages}
use Rattle.oc_steps.specs.Fold.{Next, Way, after_step, then_next, told_by}
use Rattle.oc_steps.specs.Steps.{Asks, Close, Done, Frame, Goes, Inside, Over, Rest, Step, Take, Use, Work, step, step_rest, taken, work}
use Rattle.oc_judge.specs.Going.{step_at}
use Rattle.oc_judge.specs.Leading.{Leads, on, one_on, silent}
use Rattle.oc_judge.specs.Ways.{Comes, KeepsRest}
use Rattle.oc_judge.specs.declared.going.Going.{Going}
use Rattle.oc_judge.specs.declared.going.Going.TheVariants as goings
use Rattle.oc_judge.proofs.Advancing.{same_rest, told_same}

abbrev further : ℕ → ℕ → ℕ
further zero m = m
further (suc n) m = suc (further n m)

-- a step is left
abbrev pub IsOn : Step → Type 0
IsOn Over = ⊥
IsOn s = Unit {0}

pub step_is_on : (g : Going) (fs : List Frame) (σ : Store) → IsOn (step_at g fs σ)
step_is_on (goings.Goes o) fs σ = tt
step_is_on (goings.Asks s) fs σ = tt

module _ (p : TProgram) (rs : List TRegion) where
  pub at_once : (s t : Step) → t ≡ s → Leads p rs s t
  at_once s t e = record { steps = 0; is = sym e }

  further_on : (n m : ℕ) (s t : Step) → on p rs m s ≡ t → on p rs (further n m) s ≡ on p rs n t
  further_on zero m s t e = e
  further_on (suc n) m s t e = ap (one_on p rs) (further_on n m s t e)

  -- one after the other
  pub leads_then : (s t u : Step) → Leads p rs s t → Leads p rs t u → Leads p rs s u
  leads_then s t u a b = record { steps = further b.steps a.steps; is = further_on b.steps a.steps s t a.is ∙ b.is }

  -- ---- steps of a statement

  one_silent : (fs : List Frame) (σ : Store) → σ.events ≡ [] → one_on p rs (Goes fs (Went σ)) ≡ step p rs join_ages of_ages fs (Went σ)
  one_silent fs σ h = ap (λ es. silent es (Goes fs (Went σ)) (step p rs join_ages of_ages fs (Went σ))) h

  -- a value that is there is taken
  pub takes_it : (f : Inside) (env : List Binding) (n : ℕ) (k : TKind) (fs : List Frame) (v : Value) (σ : Store) (t : Step) → σ.events ≡ []
      → work p rs join_ages of_ages f env n k fs σ ≡ Goes (Take env n k ∷ fs) (Returned v σ) → t ≡ taken p rs join_ages of_ages env n k v fs σ
      → Leads p rs (work p rs join_ages of_ages f env n k fs σ) t
  takes_it f env n k fs v σ t h w e = record {
    steps = 1;
    is = ap (one_on p rs) w ∙ ap (λ es. silent es (Goes (Take env n k ∷ fs) (Returned v σ)) (taken p rs join_ages of_ages env n k v fs σ)) h ∙ sym e;
  }

  -- the end of a statement that says nothing
  pub ends_it : (e : Bool) (n : ℕ) (u : List ℕ) (r : Option ℕ) (fs : List Frame) (o : Outcome) (σ : Store) → e ≡ false → r ≡ None → σ.events ≡ [] → o ≡ Went σ
      → Leads p rs (Goes (Done e n u ∷ Close r ∷ fs) o) (Goes fs o)
  ends_it e n u r fs o σ i c h w =
      subst (λ o. Leads p rs (Goes (Done e n u ∷ Close r ∷ fs) o) (Goes fs o)) (sym w)
      (subst (λ b. Leads p rs (Goes (Done b n u ∷ Close r ∷ fs) (Went σ)) (Goes fs (Went σ))) (sym i)
      (subst (λ q. Leads p rs (Goes (Done false n u ∷ Close q ∷ fs) (Went σ)) (Goes fs (Went σ))) (sym c)
      (record { steps = 2; is = ap (one_on p rs) (one_silent (Done false n u ∷ Close None ∷ fs) σ h) ∙ one_silent (Close None ∷ fs) σ h })))

  -- and then the statements that follow it
  pub leaves_it : (e : Bool) (n : ℕ) (u : List ℕ) (r : Option ℕ) (f : Inside) (env : List Binding) (ss : TStmts) (fs : List Frame) (σ : Store) → e ≡ false → r ≡ None → σ.events ≡ []
      → Leads p rs (Goes (Close r ∷ Rest f env ss ∷ fs) (Went (done e n u σ))) (step_rest p rs join_ages of_ages f env ss fs σ)
  leaves_it e n u r f env ss fs σ i c h =
      subst (λ b. Leads p rs (Goes (Close r ∷ Rest f env ss ∷ fs) (Went (done b n u σ))) (step_rest p rs join_ages of_ages f env ss fs σ)) (sym i)
      (subst (λ q. Leads p rs (Goes (Close q ∷ Rest f env ss ∷ fs) (Went σ)) (step_rest p rs join_ages of_ages f env ss fs σ)) (sym c)
      (record { steps = 2; is = ap (one_on p rs) (one_silent (Close None ∷ Rest f env ss ∷ fs) σ h) ∙ one_silent (Rest f env ss ∷ fs) σ h }))

  module _ (f : Inside) (env : List Binding) (n : ℕ) (u : List ℕ) (k : TKind) (fs : List Frame) (σ : Store) (h : σ.events ≡ []) (r : Option ℕ) (none : r ≡ None) where
    -- the use of a statement with which no region begins
    pub begins_it : Leads p rs (Goes (Use f env n u k ∷ fs) (Went (opened r σ))) (Goes (Work f env n k ∷ fs) (Went (used (begins_use (is_fresh env) k) n u σ)))
    begins_it =
        subst (λ q. Leads p rs (Goes (Use f env n u k ∷ fs) (Went (opened q σ))) (Goes (Work f env n k ∷ fs) (Went (used (begins_use (is_fresh env) k) n u σ)))) (sym none)
        (record { steps = 1; is = one_silent (Use f env n u k ∷ fs) σ h })

    -- and its work, where no use begins either
    pub works_it : begins_use (is_fresh env) k ≡ false → Leads p rs (Goes (Use f env n u k ∷ fs) (Went (opened r σ))) (work p rs join_ages of_ages f env n k fs σ)
    works_it b =
        leads_then (Goes (Use f env n u k ∷ fs) (Went (opened r σ))) (Goes (Work f env n k ∷ fs) (Went (used (begins_use (is_fresh env) k) n u σ)))
        (work p rs join_ages of_ages f env n k fs σ) begins_it
        (subst (λ b. Leads p rs (Goes (Work f env n k ∷ fs) (Went (used b n u σ))) (work p rs join_ages of_ages f env n k fs σ)) (sym b)
        (record { steps = 1; is = one_silent (Work f env n k ∷ fs) σ h }))

  -- ---- steps of a run

  is_on : (s : Step) → IsOn (one_on p rs s) → IsOn s
  is_on (Goes fs o) i = tt
  is_on (Asks s fs σ) i = tt
  is_on Over i = i

  module _ (w : Way) where
    one_more : (s : Step) → Comes p rs w (after_step w s) → IsOn (one_on p rs s) → Comes p rs w (after_step w (one_on p rs s))
    one_more (Asks s fs σ) h i = h
    one_more Over h i = h
    one_more (Goes fs o) h i = by (events_in o) (step p rs join_ages of_ages fs o) refl refl i
      where
        by : (es : List Event) (x : Step) → events_in o ≡ es → step p rs join_ages of_ages fs o ≡ x → IsOn (silent es (Goes fs o) x)
            → Comes p rs w (after_step w (silent es (Goes fs o) x))
        by (e ∷ es) x q r j = h
        by [] Over q r j = absurd j
        by [] (Goes gs u) q r j = record {
          steps = suc h.steps;
          is = ap (then_next p rs) (h.is ∙ ap (told_by w fs o) q) ∙ ap (after_step (record w { frames = fs; out = o })) r ∙ told_same w fs gs o u (events_in u);
        }
        by [] (Asks s gs τ) q r j = record {
          steps = suc h.steps;
          is = ap (then_next p rs) (h.is ∙ ap (told_by w fs o) q) ∙ ap (after_step (record w { frames = fs; out = o })) r;
        }

    more : (n : ℕ) (s : Step) → Comes p rs w (after_step w s) → IsOn (on p rs n s) → Comes p rs w (after_step w (on p rs n s))
    more zero s h i = h
    more (suc n) s h i = one_more (on p rs n s) (more n s h (is_on (on p rs n s) i)) i

    far : (t : Step) → IsOn t → Leads p rs (step p rs join_ages of_ages w.frames w.out) t → Comes p rs w (after_step w t)
    far t i h =
        subst (λ s. Comes p rs w (after_step w s)) h.is
        (more h.steps (step p rs join_ages of_ages w.frames w.out) (record { steps = 1; is = refl }) (subst IsOn (sym h.is) i))

    -- what comes behind such steps
    pub goes_far : (v : Way) (next : Next) (g : Going) (fs : List Frame) (σ : Store) → KeepsRest w v → Leads p rs (step p rs join_ages of_ages w.frames w.out) (step_at g fs σ)
        → next ≡ after_step v (step_at g fs σ) → Comes p rs w next
    goes_far v next g fs σ k h e = subst (Comes p rs w) (sym (e ∙ same_rest w v g fs σ k)) (far (step_at g fs σ) (step_is_on g fs σ) h)
