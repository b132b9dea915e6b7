-- The run over ages is the run over samples, as far as both go.
use Rattle.std.proofs.Common.{◌≡◌, ℕ, zero, suc, ℤ, List, [], ◌∷◌, ◌++◌, length, map, get_or, refl, sym, ap, ◌∙◌, subst, inl, inr, ⊎_elim}
use Rattle.std.specs.Prelude.{◌⊎◌}
use Rattle.oc_tree.specs.Tree.{TProgram}
use Rattle.oc_tree.specs.Marked.{TRegion}
use Rattle.oc_tree.specs.Samples.{union}
use Rattle.oc_meaning.specs.Store.{Event, Store}
use Rattle.oc_meaning.specs.Cuts.{events_in}
use Rattle.oc_meaning.specs.Exec.{Trap, Short, Outcome, Went, Returned, Stopped}
use Rattle.oc_steps.specs.Steps.{Frame, Step, Goes, Asks, Over, step, of_samples}
use Rattle.oc_steps.specs.Ages.{join_ages, aged_frame, aged_event, aged_store, aged_outcome, aged_step, of_ages}
use Rattle.oc_steps.specs.AgesTell.{Agrees}
use Rattle.oc_steps.specs.Heard.{Under, cleared, store_in}
use Rattle.oc_steps.specs.Little.{IsNoInput, IsNoEnd, SaysOne, Little}
use Rattle.oc_steps.specs.Fold.{Way, Next, Says, Wants, Stands, Went_on, told_by, after_step, next_of, then_next, steps_on}
use Rattle.oc_steps.specs.Watching.{Follows}
use Rattle.oc_steps.proofs.Aging.{steps_age}
use Rattle.oc_steps.proofs.Little.{says_little}
use Rattle.oc_steps.proofs.Telling.{hears}

-- all but the frames and the outcome is the same
pub record Same (w now : Way) : Type 0 where
  pub sets : now.sets ≡ w.sets
  pub inside : now.inside ≡ w.inside
  pub over : now.over ≡ w.over

same_both : (a b c : Way) → Same a b → Same b c → Same a c
same_both a b c x y = record { sets = y.sets ∙ x.sets; inside = y.inside ∙ x.inside; over = y.over ∙ x.over }

-- no end is said, or the run stopped
abbrev pub IsLast : Event → Outcome → Type 0
IsLast e o = IsNoEnd e.said ⊎ ((σ : Store) × (o ≡ Stopped Trap σ))

pub cleared_aged : (before : ℕ → ℕ) (c : ℕ) (o : Outcome) → aged_outcome before c (cleared o) ≡ cleared (aged_outcome before c o)
cleared_aged before c (Went σ) = refl
cleared_aged before c (Returned v σ) = refl
cleared_aged before c (Stopped s σ) = refl

events_aged : (before : ℕ → ℕ) (c : ℕ) (o : Outcome) → events_in (aged_outcome before c o) ≡ map (aged_event before) (events_in o)
events_aged before c (Went σ) = refl
events_aged before c (Returned v σ) = refl
events_aged before c (Stopped s σ) = refl

-- an outcome without events is cleared
pub is_cleared : (o : Outcome) → events_in o ≡ [] → cleared o ≡ o
is_cleared (Went σ) h = ap (λ l. Went (record σ { events = l })) (sym h)
is_cleared (Returned v σ) h = ap (λ l. Returned v (record σ { events = l })) (sym h)
is_cleared (Stopped s σ) h = ap (λ l. Stopped s (record σ { events = l })) (sym h)

pub taken_of : (m : ℕ) (o : Outcome) → SaysOne m o → (store_in (cleared o)).taken ≡ m
taken_of m (Went σ) h = h.0
taken_of m (Returned v σ) h = h.0
taken_of m (Stopped Trap σ) h = h.0
taken_of m (Stopped Short σ) h = absurd h

said_of : (m : ℕ) (o : Outcome) → SaysOne m o → (events_in o ≡ []) ⊎ ((e : Event) × (events_in o ≡ e ∷ []) × IsNoInput e.said × IsLast e (cleared o))
said_of m (Went σ) h = ⊎_elim inl (λ k. inr (k.0, k.1, k.2, inl k.3)) h.1
said_of m (Returned v σ) h = ⊎_elim inl (λ k. inr (k.0, k.1, k.2, inl k.3)) h.1
said_of m (Stopped Trap σ) h = inr (h.1.0, h.1.1, h.1.2, inr (record σ { events = [] }, refl))
said_of m (Stopped Short σ) h = absurd h

module _ (p : TProgram) (regions : List TRegion) (v : List ℤ) (table : List ℕ) (c : ℕ) where
  -- the run says an event
  pub record Saying (past : List Event) (w : Way) (e : Event) (now : Way) : Type 0 where
    pub event : Event
    pub fs : List Frame
    pub o : Outcome
    pub follows : Follows p regions v table c (event ∷ past) fs o now.frames now.out
    pub age : (before : ℕ → ℕ) → Agrees table before → aged_event before event ≡ e
    pub no_input : IsNoInput event.said
    pub last : IsLast event o
    pub same : Same w now

  -- it wants a sample
  pub record Wanting (past : List Event) (w : Way) (sensor : ℕ) (aged : List Frame) (aged_σ : Store) : Type 0 where
    pub fs : List Frame
    pub o : Outcome
    pub after : List Frame
    pub σ : Store
    pub under : Under p regions v past fs o
    pub asks : step p regions union of_samples fs o ≡ Asks sensor after σ
    pub frames_age : (before : ℕ → ℕ) → Agrees table before → map (aged_frame before) after ≡ aged
    pub store_age : (before : ℕ → ℕ) → Agrees table before → aged_store before c σ ≡ aged_σ
    pub silent : σ.events ≡ []
    pub count : σ.taken ≡ length table

  -- it stands at its end
  pub record Standing (past : List Event) (w now : Way) : Type 0 where
    pub fs : List Frame
    pub o : Outcome
    pub follows : Follows p regions v table c past fs o now.frames now.out
    pub over : step p regions union of_samples fs o ≡ Over
    pub same : Same w now

  -- it only went on
  pub record Walking (past : List Event) (w now : Way) : Type 0 where
    pub fs : List Frame
    pub o : Outcome
    pub follows : Follows p regions v table c past fs o now.frames now.out
    pub same : Same w now

  abbrev pub Leads : List Event → Way → Next → Type 0
  Leads past w (Says e now) = Saying past w e now
  Leads past w (Wants s fs σ) = Wanting past w s fs σ
  Leads past w (Stands now) = Standing past w now
  Leads past w (Went_on now) = Walking past w now

  -- what stands in the table, and nothing before samples to come
  abbrev pub first : ℕ → ℕ
  first j = get_or table j 0

  pub first_agrees : Agrees table first
  first_agrees j l = refl

  module _ (past : List Event) (fs : List Frame) (o : Outcome) (w : Way) (f : Follows p regions v table c past fs o w.frames w.out) where
    -- nothing that was said is left in it
    pub nothing_said : events_in w.out ≡ []
    nothing_said = ap events_in (sym (f.out_age first first_agrees)) ∙ events_aged first c o ∙ ap (map (aged_event first)) f.under.none

    meets : (before : ℕ → ℕ) → Agrees table before → step p regions join_ages of_ages w.frames w.out ≡ aged_step before c (step p regions union of_samples fs o)
    meets before a =
        ap (λ l. step p regions join_ages of_ages l w.out) (sym (f.frames_age before a))
        ∙ ap (λ l. step p regions join_ages of_ages (map (aged_frame before) fs) l) (sym (f.out_age before a))
        ∙ steps_age p regions before c fs o

    module _ (gs gs' : List Frame) (u u' : Outcome) (e : step p regions union of_samples fs o ≡ Goes gs' u')
        (k : (before : ℕ → ℕ) → Agrees table before → Goes gs u ≡ aged_step before c (Goes gs' u')) (l : SaysOne (store_in o).taken u') where
      frames_are : (before : ℕ → ℕ) → Agrees table before → map (aged_frame before) gs' ≡ gs
      frames_are before a = cc (k before a)

      outcome_is : (before : ℕ → ℕ) → Agrees table before → aged_outcome before c u' ≡ u
      outcome_is before a = cc (k before a)

      events_are : (before : ℕ → ℕ) → Agrees table before → events_in u ≡ map (aged_event before) (events_in u')
      events_are before a = ap events_in (sym (outcome_is before a)) ∙ events_aged before c u'

      follows : Follows p regions v table c (events_in u' ++ past) gs' (cleared u') gs (cleared u)
      follows = record {
        under = hears.goes_on p regions v past fs gs' o u' f.under e;
        frames_age = frames_are;
        out_age = λ before a. cleared_aged before c u' ∙ ap cleared (outcome_is before a);
        count = taken_of (store_in o).taken u' l ∙ f.count;
      }

      quiet : events_in u' ≡ [] → Leads past w (told_by w gs u (events_in u))
      quiet h =
          let none : events_in u ≡ [] = events_are first first_agrees ∙ ap (map (aged_event first)) h in
          let at : Follows p regions v table c past gs' (cleared u') gs u =
          subst (λ q. Follows p regions v table c past gs' (cleared u') gs q) (is_cleared u none)
          (subst (λ l. Follows p regions v table c (l ++ past) gs' (cleared u') gs (cleared u)) h follows) in
          subst (λ l. Leads past w (told_by w gs u l)) (sym none)
          (record { fs = gs'; o = cleared u'; follows = at; same = record { sets = refl; inside = refl; over = refl } })

      says : (x : Event) → events_in u' ≡ x ∷ [] → IsNoInput x.said → IsLast x (cleared u') → Leads past w (told_by w gs u (events_in u))
      says x h n t =
          let one : events_in u ≡ aged_event first x ∷ [] = events_are first first_agrees ∙ ap (map (aged_event first)) h in
          subst (λ l. Leads past w (told_by w gs u l)) (sym one)
          (record {
            event = x;
            fs = gs';
            o = cleared u';
            follows = subst (λ l. Follows p regions v table c (l ++ past) gs' (cleared u') gs (cleared u)) h follows;
            age = λ before a. let two : aged_event before x ∷ [] ≡ aged_event first x ∷ [] = sym (events_are before a ∙ ap (map (aged_event before)) h) ∙ one in cc (two);
            no_input = n;
            last = t;
            same = record { sets = refl; inside = refl; over = refl };
          })

      goes : Leads past w (told_by w gs u (events_in u))
      goes = ⊎_elim quiet (λ y. says y.0 y.1 y.2 y.3) (said_of (store_in o).taken u' l)

    by : (a b : Step) → step p regions union of_samples fs o ≡ b → ((before : ℕ → ℕ) → Agrees table before → a ≡ aged_step before c b) → Little (store_in o).taken b → Leads past w (after_step w a)
    by (Goes gs u) (Goes gs' u') e k l = goes gs gs' u u' e k l
    by (Goes gs u) (Asks s gs' σ) e k l = absurd (cc (k first first_agrees))
    by (Goes gs u) Over e k l = absurd (cc (k first first_agrees))
    by (Asks s gs τ) (Goes gs' u') e k l = absurd (cc (k first first_agrees))
    by (Asks s gs τ) (Asks s' gs' σ) e k l =
        let is : s' ≡ s = cc (k first first_agrees) in
        record {
          fs = fs;
          o = o;
          after = gs';
          σ = σ;
          under = f.under;
          asks = e ∙ ap (λ x. Asks x gs' σ) is;
          frames_age = λ before a. cc (k before a);
          store_age = λ before a. cc (k before a);
          silent = l.0;
          count = l.1 ∙ f.count;
        }
    by (Asks s gs τ) Over e k l = absurd (cc (k first first_agrees))
    by Over (Goes gs' u') e k l = absurd (cc (k first first_agrees))
    by Over (Asks s gs' σ) e k l = absurd (cc (k first first_agrees))
    by Over Over e k l = record { fs = fs; o = o; follows = f; over = e; same = record { sets = refl; inside = refl; over = refl } }

    one_step : Leads past w (next_of p regions w)
    one_step = by (step p regions join_ages of_ages w.frames w.out) (step p regions union of_samples fs o) refl meets (says_little p regions fs o f.under.none)

    -- a run that stands stays so
    pub stays : step p regions union of_samples fs o ≡ Over → (n : ℕ) → (steps_on p regions n w ≡ Went_on w) ⊎ (steps_on p regions n w ≡ Stands w)
    stays e zero = inl refl
    stays e (suc n) = inr (⊎_elim (λ h. ap (then_next p regions) h ∙ one) (λ h. ap (then_next p regions) h) (stays e n))
      where
        one : next_of p regions w ≡ Stands w
        one = ap (after_step w) (meets first first_agrees ∙ ap (aged_step first c) e)

  moves : (past : List Event) (w w' : Way) → Same w w' → (x : Next) → Leads past w' x → Leads past w x
  moves past w w' s (Says e now) l =
      record { event = l.event; fs = l.fs; o = l.o; follows = l.follows; age = l.age; no_input = l.no_input; last = l.last; same = same_both w w' now s l.same }
  moves past w w' s (Wants k fs σ) l =
      record { fs = l.fs; o = l.o; after = l.after; σ = l.σ; under = l.under; asks = l.asks; frames_age = l.frames_age; store_age = l.store_age; silent = l.silent; count = l.count }
  moves past w w' s (Stands now) l = record { fs = l.fs; o = l.o; follows = l.follows; over = l.over; same = same_both w w' now s l.same }
  moves past w w' s (Went_on now) l = record { fs = l.fs; o = l.o; follows = l.follows; same = same_both w w' now s l.same }

  pub onward : (n : ℕ) (past : List Event) (fs : List Frame) (o : Outcome) (w : Way) → Follows p regions v table c past fs o w.frames w.out → Leads past w (steps_on p regions n w)
  onward zero past fs o w f = record { fs = fs; o = o; follows = f; same = record { sets = refl; inside = refl; over = refl } }
  onward (suc n) past fs o w f = on (steps_on p regions n w) (onward n past fs o w f)
    where
      on : (x : Next) → Leads past w x → Leads past w (then_next p regions x)
      on (Says e now) l = l
      on (Wants k gs σ) l = l
      on (Stands now) l = l
      on (Went_on now) l = moves past w now l.same (next_of p regions now) (one_step past l.fs l.o now l.follows)
