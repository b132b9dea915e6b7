-- No instance falls along a run whose steps are counted.
use Rattle.std.proofs.Common.{◌≡◌, ◌≤◌, ℕ, zero, suc, ℤ, Bool, true, false, List, [], ◌∷◌, Option, Some, None, refl, sym, ap, ◌∙◌, subst, inl, ⊎_elim, arith}
use Rattle.std.proofs.Common.{nat_lt, ltb-true}
use Rattle.std.proofs.lemmas.Option.{same_Some}
use Rattle.std.specs.Prelude.{find}
use Rattle.oc_tree.specs.Marked.{TRegion}
use Rattle.oc_tree.specs.Members.{IsOf}
use Rattle.oc_tree.specs.Names.{Text}
use Rattle.oc_tree.specs.Tree.{TFunction, TProgram}
use Rattle.oc_tree.specs.declared.said.Said.{Said}
use Rattle.oc_tree.specs.declared.said.Said.TheVariants.{Sensed, Showed, Entered, Committed, Aborted, Off, Dark, Ended}
use Rattle.oc_tree.specs.declared.said.Shown.TheVariants.{Emitted, Used, Finished, Tagged}
use Rattle.oc_meaning.specs.Store.{Event}
use Rattle.oc_meaning.specs.Cuts.{events_in}
use Rattle.oc_meaning.specs.Exec.{Outcome, Went, Returned, Stopped}
use Rattle.oc_meaning.specs.Run.{function_named}
use Rattle.oc_honest.specs.Timely.{set_of}
use Rattle.oc_steps.specs.Ages.{join_ages, of_ages}
use Rattle.oc_steps.specs.Heard.{cleared, store_in}
use Rattle.oc_steps.specs.Steps.{Frame, Step, Goes, Asks, Over, step}
use Rattle.oc_steps.specs.Fold.{Instance, Way, Next, Says, Wants, Stands, Went_on, Rises, is_set, is_later, falls, falls_at, put_instance, tag_age, with_tag}
use Rattle.oc_steps.specs.Fold.{told_by, after_step, next_of, then_next, steps_on}
use Rattle.oc_steps.specs.Counting.{home_of, times, BlockNoted, AreCounted}
use Rattle.oc_steps.proofs.Together.{same_set, find_put, find_other}
use Rattle.oc_steps.proofs.Counting.{IsTagOf, Counts, step_counts}

store_events : (o : Outcome) → (store_in o).events ≡ events_in o
store_events (Went σ) = refl
store_events (Returned v σ) = refl
store_events (Stopped s σ) = refl

cleared_blocks : (o : Outcome) → (store_in (cleared o)).blocks ≡ (store_in o).blocks
cleared_blocks (Went σ) = refl
cleared_blocks (Returned v σ) = refl
cleared_blocks (Stopped s σ) = refl

-- ---- a tag

module _ (p : TProgram) (sets : List Instance) (fs : List Frame) (blocks : List ℕ) (counted : AreCounted p sets fs blocks) (e : Event) where
  pub falls_not : (s : ℕ × ℤ) → e.instance ≡ times p s blocks → falls_at (Some s) e sets ≡ false
  falls_not s is = by (find (is_set s) sets) refl
    where
      by : (o : Option Instance) → find (is_set s) sets ≡ o → is_later o e.instance ≡ false
      by None f = refl
      by (Some i) f = test (nat_lt e.instance i.number) refl
        where
          test : (b : Bool) → nat_lt e.instance i.number ≡ b → b ≡ false
          test false g = refl
          test true g = let up = counted.last s i f in let less = ltb-true e.instance i.number g in absurd (omega (arith, up, less, is))

  pub none_falls : IsTagOf p blocks e → falls p e.said e sets ≡ false
  none_falls tag = by e.said refl
    where
      set : (n : ℕ) → e.said ≡ Showed (Tagged n) → (o : Option (ℕ × ℤ)) → set_of p n ≡ o → falls_at o e sets ≡ false
      set n h None g = refl
      set n h (Some s) g = falls_not s (tag n s h g)

      by : (s : Said) → e.said ≡ s → falls p s e sets ≡ false
      by (Showed (Tagged n)) h = set n h (set_of p n) refl
      by said h = refl

  -- what is remembered with it
  pub tag_counted : (s : ℕ × ℤ) → e.instance ≡ times p s blocks → AreCounted p (with_tag (Some s) e sets) fs blocks
  tag_counted s is = record { noted = counted.noted; last = last }
    where
      new : Instance
      new = record { set = s; number = e.instance; age = tag_age s e sets }

      last : (k : ℕ × ℤ) (i : Instance) → find (is_set k) (put_instance s new sets) ≡ Some i → i.number ≤ times p k blocks
      last k i f = ⊎_elim own (λ d. counted.last k i (sym (find_other s k new sets refl d) ∙ f)) (same_set k s)
        where
          own : k ≡ s → i.number ≤ times p k blocks
          own q =
              let one : i ≡ new = same_Some i new (sym f ∙ ap (λ y. find (is_set y) (put_instance s new sets)) q ∙ find_put s new sets refl) in
              let number : i.number ≡ times p k blocks = ap (λ y. y.number) one ∙ is ∙ ap (λ y. times p y blocks) (sym q) in
              omega (arith, number)

-- ---- a run under way

module _ (p : TProgram) (regions : List TRegion) (bodies : (x : Text) (g : TFunction) → function_named p.functions x ≡ Some g → BlockNoted p g.body g.body) where
  abbrev IsCounted : Way → Type 0
  IsCounted w = AreCounted p w.sets w.frames (store_in w.out).blocks

  -- what it does next, where these sets were remembered
  abbrev pub StaysCounted : List Instance → Next → Type 0
  StaysCounted sets (Says e now) = IsCounted now × IsTagOf p (store_in now.out).blocks e
  StaysCounted sets (Wants s fs σ) = AreCounted p sets fs σ.blocks
  StaysCounted sets (Stands now) = IsCounted now
  StaysCounted sets (Went_on now) = IsCounted now × (events_in now.out ≡ []) × (now.sets ≡ sets)

  one_counted : (w : Way) → IsCounted w → events_in w.out ≡ [] → StaysCounted w.sets (next_of p regions w)
  one_counted w h n = by (step p regions join_ages of_ages w.frames w.out) (step_counts p before join_ages regions bodies w.frames w.out h.noted (store_events w.out ∙ n, refl))
    where
      before : List ℕ
      before = (store_in w.out).blocks

      by : (s : Step) → Counts p before s → StaysCounted w.sets (after_step w s)
      by (Goes fs o) c = told (events_in o) refl
        where
          last : (s : ℕ × ℤ) (i : Instance) → find (is_set s) w.sets ≡ Some i → i.number ≤ times p s (store_in o).blocks
          last s i f = let a = h.last s i f in let b = c.1.0 (home_of p s) in omega (arith, a, b)

          told : (es : List Event) → events_in o ≡ es → StaysCounted w.sets (told_by w fs o es)
          told [] e = (record { noted = c.0; last = last }, e, refl)
          told (x ∷ es) e = subst (λ bs. AreCounted p w.sets fs bs × IsTagOf p bs x) (sym (cleared_blocks o))
              (record { noted = c.0; last = last }, c.1.1 x (subst (IsOf x) (sym (store_events o ∙ e)) (inl refl)))
      by (Asks s fs σ) c = record { noted = c.0; last = λ k i f. subst (λ bs. i.number ≤ times p k bs) (sym c.1) (h.last k i f) }
      by Over c = h

  pub counted_on : (n : ℕ) (w : Way) → IsCounted w → events_in w.out ≡ [] → StaysCounted w.sets (steps_on p regions n w)
  counted_on zero w h e = (h, e, refl)
  counted_on (suc n) w h e = on (steps_on p regions n w) (counted_on n w h e)
    where
      on : (x : Next) → StaysCounted w.sets x → StaysCounted w.sets (then_next p regions x)
      on (Says e now) l = l
      on (Wants k gs σ) l = l
      on (Stands now) l = l
      on (Went_on now) l = subst (λ z. StaysCounted z (next_of p regions now)) l.2 (one_counted now l.0 l.1)

  pub rises : (sets : List Instance) (x : Next) → StaysCounted sets x → Rises p x
  rises sets (Says e now) c = none_falls p now.sets now.frames (store_in now.out).blocks c.0 e c.1
  rises sets (Wants k gs σ) c = tt
  rises sets (Stands now) c = tt
  rises sets (Went_on now) c = tt
