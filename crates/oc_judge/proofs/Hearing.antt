-- From what a run tells next to what the audit answers.
use Rattle.std.proofs.Common.{◌≡◌, refl, sym, ap, ◌∙◌, subst, ℕ, ℤ, ◌+◌, suc, ◌<◌, ◌≤◌, arith, Bool, true, false, ◌&&◌, List, length, map, drop, get_or, Option, Some, None, Result, Ok, Err, IfOk}
use Rattle.std.proofs.lemmas.Bool.{and_from}
use Rattle.std.proofs.lemmas.List.{drop_more, drop_all}
use Rattle.oc_tree.specs.Form.{Numbered}
use Rattle.oc_tree.specs.Tree.{TProgram}
use Rattle.oc_tree.specs.Marked.{TRegion}
use Rattle.oc_tree.specs.declared.said.Ending.{Ending}
use Rattle.oc_tree.specs.declared.said.Ending.TheVariants.{Halted}
use Rattle.oc_tree.specs.declared.said.Said.{Said}
use Rattle.oc_tree.specs.declared.said.Said.TheVariants.{Sensed, Showed, Entered, Committed, Aborted, Off, Dark, Ended}
use Rattle.oc_tree.specs.declared.said.Shown.{Shown}
use Rattle.oc_items.specs.declared.item.Item.{Item}
use Rattle.oc_items.specs.Told.{told_of}
use Rattle.oc_meaning.specs.Store.{Event, Store}
use Rattle.oc_meaning.specs.Exec.{Outcome}
use Rattle.oc_meaning.specs.Run.{words_of}
use Rattle.oc_steps.specs.Steps.{Frame}
use Rattle.oc_steps.specs.Auditing.{Finds, all, breaks, goes, IsHeard, first_watch}
use Rattle.oc_steps.specs.Fold.{Says, Stands, Watch, Way, at_end, has_words, if_so, is_said, may_show, off, on_next, steps_on, with_shown, words}
use Rattle.oc_steps.specs.Heard.{store_in}
use Rattle.oc_steps.specs.Watching.{IsMade, IsTelling}
use Rattle.oc_steps.proofs.Auditing.{finds_right}
use Rattle.oc_judge.specs.Stores.{completion_at}
use Rattle.oc_judge.specs.Verdicts.{IsVerdict, found, reported}
use Rattle.oc_judge.specs.Watches.{IsTold, answered, halts_at, watch_view}
use Rattle.oc_judge.specs.Ways.{Comes, KeepsRest}
use Rattle.oc_judge.specs.declared.store.Completion.{Completion}
use Rattle.oc_judge.specs.declared.store.Completion.TheVariants as completions
use Rattle.oc_judge.specs.declared.watch.Watch.{Watch as Watching}
use Rattle.oc_judge.specs.declared.judge.Verdict.{Verdict}
use Rattle.oc_judge.specs.declared.judge.Verdict.TheVariants as verdicts

-- an outcome in the place of the one before
pub with_out : (w : Way) (v : Way) (fs : List Frame) (o : Outcome) → KeepsRest w v → v.frames ≡ fs → record v { out = o } ≡ record w { frames = fs; out = o }
with_out w v fs o h e = λ i. record { frames = e i; out = o; sets = h.sets i; inside = h.inside i; over = h.over i }

pub store_at : (c : Completion) (σ : Store) → store_in (completion_at c σ) ≡ σ
store_at completions.Went σ = refl
store_at (completions.Returned v) σ = refl
store_at completions.Trapped σ = refl

pub second_false : (a b : Bool) → b ≡ false → a && b ≡ false
second_false true b h = h
second_false false b h = refl

pub first_false : (a b : Bool) → a ≡ false → a && b ≡ false
first_false a b h = ap (λ x. x && b) h

module _ (p : TProgram) (rs : List TRegion) (nv : Option (List ℤ)) where
  -- an event of the source that may be told, or not
  pub shown : (w : Watch) (a : Shown) (e : Event) (now : Way) (after : Watching) (b : Bool) → Comes p rs w.now (Says e now) → b ≡ is_said e.said (Showed a) && may_show p nv now a e
      → (b ≡ true → watch_view after ≡ record w { now = with_shown p nv now a e }) → IsTold p rs nv w (Showed a) (answered b after)
  shown w a e now after b h k s = record { next = Says e now; comes = h; made = tt; answer = by b s ∙ ap (λ b. if_so p nv b (record w { now = with_shown p nv now a e })) k }
    where
      by : (b : Bool) → (b ≡ true → watch_view after ≡ record w { now = with_shown p nv now a e }) → answered b after ≡ if_so p nv b (record w { now = with_shown p nv now a e })
      by true s = ap Some (s refl)
      by false s = refl

  words_at : (now : Way) (c : Completion) (σ : Store) → now.out ≡ completion_at c σ → (b : Bool) → b ≡ has_words p nv nv (words_of σ.nv) → has_words p nv nv (words p nv now.out) ≡ b
  words_at now c σ o b e =
      ap (λ q. has_words p nv nv (words_of (store_in q).nv)) o ∙ ap (λ s. has_words p nv nv (words_of s.nv)) (store_at c σ) ∙ sym e

  -- a trap
  pub ended_yes : (w : Watch) (how : Ending) (e : Event) (now : Way) (c : Completion) (σ : Store) → now.out ≡ completion_at c σ → Comes p rs w.now (Says e now)
      → is_said e.said (Ended how) ≡ true → true ≡ has_words p nv nv (words_of σ.nv) → IsTold p rs nv w (Ended how) (Some (record w { now = record now { over = true } }))
  ended_yes w how e now c σ o h k m = record {
    next = Says e now;
    comes = h;
    made = tt;
    answer = sym (ap (λ b. if_so p nv b (record w { now = record now { over = true } }))
        (and_from (is_said e.said (Ended how)) (has_words p nv nv (words p nv now.out)) k (words_at now c σ o true m)));
  }

  pub ended_other : (w : Watch) (how : Ending) (e : Event) (now : Way) → Comes p rs w.now (Says e now) → is_said e.said (Ended how) ≡ false → IsTold p rs nv w (Ended how) None
  ended_other w how e now h k = record {
    next = Says e now;
    comes = h;
    made = tt;
    answer = sym (ap (λ b. if_so p nv b (record w { now = record now { over = true } })) (first_false (is_said e.said (Ended how)) (has_words p nv nv (words p nv now.out)) k));
  }

  pub ended_no : (w : Watch) (how : Ending) (e : Event) (now : Way) (c : Completion) (σ : Store) → now.out ≡ completion_at c σ → Comes p rs w.now (Says e now)
      → false ≡ has_words p nv nv (words_of σ.nv) → IsTold p rs nv w (Ended how) None
  ended_no w how e now c σ o h m = record {
    next = Says e now;
    comes = h;
    made = tt;
    answer = sym (ap (λ b. if_so p nv b (record w { now = record now { over = true } }))
        (second_false (is_said e.said (Ended how)) (has_words p nv nv (words p nv now.out)) (words_at now c σ o false m)));
  }

  -- the end of a run that went through
  at_went : (w : Watch) (now : Way) (c : Completion) (σ : Store) (b : Bool) → now.out ≡ completion_at c σ → b ≡ halts_at c now.over && has_words p nv nv (words_of σ.nv)
      → at_end p nv w now now.out ≡ if_so p nv b (record w { now = record now { over = true } })
  at_went w now c σ b o e = ap (at_end p nv w now) o ∙ by c ∙ ap (λ q. if_so p nv q (record w { now = record now { over = true } })) (sym e)
    where
      by : (c : Completion) → at_end p nv w now (completion_at c σ) ≡ if_so p nv (halts_at c now.over && has_words p nv nv (words_of σ.nv)) (record w { now = record now { over = true } })
      by completions.Went = refl
      by (completions.Returned v) = refl
      by completions.Trapped = refl

  pub halted_yes : (w : Watch) (now : Way) (c : Completion) (σ : Store) → now.out ≡ completion_at c σ → Comes p rs w.now (Stands now) → true ≡ halts_at c now.over
      → true ≡ has_words p nv nv (words_of σ.nv) → IsTold p rs nv w (Ended Halted) (Some (record w { now = record now { over = true } }))
  halted_yes w now c σ o h k m = record {
    next = Stands now;
    comes = h;
    made = tt;
    answer = sym (at_went w now c σ true o (sym (and_from (halts_at c now.over) (has_words p nv nv (words_of σ.nv)) (sym k) (sym m))));
  }

  pub halted_not : (w : Watch) (now : Way) (c : Completion) (σ : Store) → now.out ≡ completion_at c σ → Comes p rs w.now (Stands now) → false ≡ halts_at c now.over
      → IsTold p rs nv w (Ended Halted) None
  halted_not w now c σ o h k = record {
    next = Stands now;
    comes = h;
    made = tt;
    answer = sym (at_went w now c σ false o (sym (first_false (halts_at c now.over) (has_words p nv nv (words_of σ.nv)) (sym k))));
  }

  pub halted_no : (w : Watch) (now : Way) (c : Completion) (σ : Store) → now.out ≡ completion_at c σ → Comes p rs w.now (Stands now) → false ≡ has_words p nv nv (words_of σ.nv)
      → IsTold p rs nv w (Ended Halted) None
  halted_no w now c σ o h m = record {
    next = Stands now;
    comes = h;
    made = tt;
    answer = sym (at_went w now c σ false o (sym (second_false (halts_at c now.over) (has_words p nv nv (words_of σ.nv)) (sym m))));
  }

  -- what is told is heard
  pub heard : (w : Watch) (s : Said) (a : Option Watch) → IsTold p rs nv w s a
      → (n : ℕ) × IsMade (steps_on p rs n w.now) × (a ≡ on_next p nv rs w s (steps_on p rs n w.now))
  heard w s a h =
      let q = subst (λ q. IsMade q × (a ≡ on_next p nv rs w s q)) (sym h.comes.is) (h.made, h.answer) in
      (h.comes.steps, q.0, q.1)

  telling : (w : Watch) (s : Said) (a : Option Watch) → IsTelling s → IsTold p rs nv w s a → IsHeard p rs nv w s a
  telling w (Sensed z v) a t h = heard w (Sensed z v) a h
  telling w (Showed e) a t h = heard w (Showed e) a h
  telling w (Entered r) a t h = heard w (Entered r) a h
  telling w (Committed r) a t h = heard w (Committed r) a h
  telling w (Ended e) a t h = heard w (Ended e) a h
  telling w (Aborted r) a t h = absurd t
  telling w (Off n) a t h = absurd t
  telling w Dark a t h = absurd t

  -- this was said, and a run tells it
  pub told_so : {E : Type 0} (w : Watch) (s x : Said) (r : Result Bool E) (now : Watching) → s ≡ x → IsTelling x → IfOk r (λ good. IsTold p rs nv w x (answered good now))
      → IfOk r (λ good. IsHeard p rs nv w s (answered good now))
  told_so w s x (Err e) now h t k = tt
  told_so w s x (Ok good) now h t k = subst (λ y. IsHeard p rs nv w y (answered good now)) (sym h) (telling w x (answered good now) t k)

  -- whatever the words are
  pub at_words : {E : Type 0} (w : Watch) (x : Said) (r : Result Bool E) (now : Watching) → IfOk r (λ good. (m : Option (List ℤ)) → IsTold p rs m w x (answered good now))
      → IfOk r (λ good. IsTold p rs nv w x (answered good now))
  at_words w x (Err e) now k = tt
  at_words w x (Ok good) now k = k nv

  pub off_so : {E : Type 0} (w : Watch) (s : Said) (n : ℕ) (r : Result Bool E) (now : Watching) → s ≡ Off n → IfOk r (λ good. (q : TProgram) (m : Option (List ℤ)) → answered good now ≡ off q m w)
      → IfOk r (λ good. IsHeard p rs nv w s (answered good now))
  off_so w s n (Err e) now h k = tt
  off_so w s n (Ok good) now h k = subst (λ y. IsHeard p rs nv w y (answered good now)) (sym h) (k p nv)

  -- anything else was said
  pub other_so : (w : Watch) (s x : Said) (a : Option Watch) → s ≡ x → IsHeard p rs nv w x a → IsHeard p rs nv w s a
  other_so w s x a e h = subst (λ y. IsHeard p rs nv w y a) (sym e) h

  module _ (items : List Item) (R : Option ℕ → Type 0) (w : Watch) (i : ℕ) (d : Item) (h : i < length items)
      (inv : (v : Option ℕ) → Finds p rs nv w (map told_of (drop i items)) (i + 1) v → R v) where
    -- the report breaks at this item
    pub stops : (n : ℕ) → n ≡ i + 1 → (b : Bool) (now : Watching) → b ≡ false → IsHeard p rs nv w (told_of (get_or items i d)).said (answered b now) → R (Some n)
    stops n k b now e heard =
        let none : IsHeard p rs nv w (told_of (get_or items i d)).said None = subst (λ a. IsHeard p rs nv w (told_of (get_or items i d)).said (answered a now)) e heard in
        subst (λ m. R (Some m)) (sym k) (inv (Some (i + 1)) (subst (λ l. Finds p rs nv w (map told_of l) (i + 1) (Some (i + 1))) (sym (drop_more items i d h)) (breaks none)))

    -- it goes on behind it
    pub passes : (b : Bool) (now : Watching) → b ≡ true → IsHeard p rs nv w (told_of (get_or items i d)).said (answered b now)
        → (v : Option ℕ) → Finds p rs nv (watch_view now) (map told_of (drop (i + 1) items)) (i + 1 + 1) v → R v
    passes b now e heard v f =
        let some : IsHeard p rs nv w (told_of (get_or items i d)).said (Some (watch_view now)) =
        subst (λ a. IsHeard p rs nv w (told_of (get_or items i d)).said (answered a now)) e heard in
        let n : i + 1 + 1 ≡ suc (i + 1) = omega arith in
        inv v (subst (λ l. Finds p rs nv w (map told_of l) (i + 1) v) (sym (drop_more items i d h))
        (goes some (subst (λ m. Finds p rs nv (watch_view now) (map told_of (drop (i + 1) items)) m v) n f)))

  -- behind the last one
  pub ends : (items : List Item) (R : Option ℕ → Type 0) (w : Watch) (i : ℕ) → length items ≤ i
      → ((v : Option ℕ) → Finds p rs nv w (map told_of (drop i items)) (i + 1) v → R v) → R None
  ends items R w i h inv = inv None (subst (λ l. Finds p rs nv w (map told_of l) (i + 1) None) (sym (drop_all i items h)) all)

-- what is found is so
pub verdict : (p : TProgram) (rs : List TRegion) (items : List Item) (nv : Option (List ℤ)) (v : Verdict) → Numbered p
    → Finds p rs nv (first_watch p rs) (map told_of items) 1 (found v) → IsVerdict p rs (reported items nv) v
verdict p rs items nv verdicts.Honest numbered f = finds_right p rs (reported items nv) None numbered f
verdict p rs items nv (verdicts.Breaks n) numbered f = finds_right p rs (reported items nv) (Some n) numbered f
