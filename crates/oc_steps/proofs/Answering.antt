-- The answer to an item that a run tells.
use Rattle.std.proofs.Common.{◌≡◌, ℕ, suc, ℤ, Bool, true, false, List, [], ◌∷◌, ◌++◌, length, map, get_or, Option, Some, None, refl, sym, ap, ◌∙◌, subst, inl, inr, ⊎_elim}
use Rattle.std.proofs.lemmas.Bool.{and_parts}
use Rattle.std.proofs.Common.{eqb-true, eq-eqb, append-nil, arith}
use Rattle.std.specs.Prelude.{◌==◌, ◌&&◌, not, if◌then◌else◌}
use Rattle.std.specs.Ordering.{int_eq}
use Rattle.std.proofs.lemmas.Bool.Decides.{Decides-int_eq}
use Rattle.std.proofs.lemmas.List.{map-append}
use Rattle.oc_tree.specs.Form.{Numbered}
use Rattle.oc_tree.specs.Tree.{TProgram}
use Rattle.oc_tree.specs.Marked.{TRegion}
use Rattle.oc_tree.specs.Said.{Told}
use Rattle.oc_tree.specs.declared.said.Ending.{Ending}
use Rattle.oc_tree.specs.declared.said.Ending.TheVariants.{Halted, Trapped}
use Rattle.oc_tree.specs.declared.said.Said.{Said}
use Rattle.oc_tree.specs.declared.said.Said.TheVariants.{Sensed, Showed, Entered, Committed, Aborted, Off, Dark, Ended}
use Rattle.oc_tree.specs.declared.said.Shown.{Shown}
use Rattle.oc_tree.specs.declared.said.Shown.TheVariants.{Emitted, Used, Finished, Tagged}
use Rattle.oc_tree.specs.declared.said.TrapKind.{TrapKind}
use Rattle.oc_tree.specs.declared.said.TrapKind.TheVariants.{Zero, Index}
use Rattle.oc_tree.specs.Samples.{union}
use Rattle.oc_meaning.specs.Store.{Held, Event, Store}
use Rattle.oc_meaning.specs.Cuts.{Begins, events_in}
use Rattle.oc_meaning.specs.Unmarked.{is_mark, unmarked}
use Rattle.oc_meaning.specs.Exec.{Trap, Short, Stop, Outcome, Went, Returned, Stopped}
use Rattle.oc_meaning.specs.Run.{Ending as Left, AtEnd, AtTrap, AtShort, trace_of, marked_run, source_run, said_in, in_order, words_of}
use Rattle.oc_meaning.proofs.Bare.{only_tell}
use Rattle.oc_items.specs.Erase.{erase, kept_samples, without_offs, inside_after}
use Rattle.oc_items.specs.Reports.{IsPrefixOf}
use Rattle.oc_honest.specs.Timely.{Lived, lives, live, lived_from, IsInput, IsUse, AreTimely, set_of}
use Rattle.oc_steps.specs.Steps.{Frame, Over, step, sensed, of_samples}
use Rattle.oc_steps.specs.Ages.{join_ages, aged_held, aged_outcome, of_ages}
use Rattle.oc_steps.specs.AgesTell.{Agrees, HasAge}
use Rattle.oc_steps.specs.Follow.{with_more}
use Rattle.oc_steps.specs.Heard.{Under, cleared, store_in, said_so_far}
use Rattle.oc_honest.specs.Honest.{IsWhole, IsHonestSoFar}
use Rattle.oc_steps.specs.Erasing.{item, last_mark}
use Rattle.oc_steps.specs.Freshness.{AreNumbered}
use Rattle.oc_steps.specs.Little.{IsNoInput, IsNoEnd}
use Rattle.oc_steps.specs.Fold.{Instance, Way, Watch, Next, Says, Wants, Stands, Went_on, steps_on, is_new, is_said, is_shown, is_kind, are_words, has_words, words, outages}
use Rattle.oc_steps.specs.Fold.{may_show, with_shown, may_tag, with_tag, falls_at, at_end, on_event, on_want, on_end, on_next}
use Rattle.oc_steps.specs.Counting.{times, AreCounted}
use Rattle.oc_steps.specs.Watching.{samples_in, offs_in, offs_before, lives_of, IsSeen, IsGoing, Follows, IsWay, IsSaved, IsWatch, IsAnswer, IsMade, IsTelling, NoneFalls, TellsRight}
use Rattle.oc_steps.proofs.Aging.{senses_age}
use Rattle.oc_steps.proofs.Telling.{hears, over_always}
use Rattle.oc_steps.proofs.Adding.{last_mark-more, saved_more, offs_before-more}
use Rattle.oc_steps.proofs.Onward.{Same, IsLast, cleared_aged, Saying, Wanting, Standing, Leads, nothing_said, onward, stays}
use Rattle.oc_steps.proofs.Homes.{body_noted}
use Rattle.oc_steps.proofs.Counting.{IsTagOf}
use Rattle.oc_steps.proofs.Rising.{StaysCounted, counted_on, falls_not, rises, tag_counted}
use Rattle.oc_steps.proofs.Using.{not_input, get_first, get_last, length-last, timely_more, numbered_more, no_tags, seen_more, use_timely, use_late, use_below, input_numbered}
use Rattle.oc_steps.proofs.Using.{input_timely, input_seen}
use Rattle.oc_steps.proofs.Together.{tag_timely, tag_seen, tag_apart}
use Rattle.oc_steps.proofs.Lives.{told_last, too_long, silent_facts, begins_now, lived_same, lives_more, added, said_more, samples_more, samples_same, table_same, said_back}
use Rattle.oc_steps.proofs.Lives.{honest_more, timely_back, way_more, going_more}

-- ---- what is the same

one_kind : (a b : TrapKind) → is_kind a b ≡ true → a ≡ b
one_kind Zero Zero e = refl
one_kind Index Index e = refl
one_kind Zero Index e = absurd (cc (e))
one_kind Index Zero e = absurd (cc (e))

kind_own : (a : TrapKind) → is_kind a a ≡ true
kind_own Zero = refl
kind_own Index = refl

one_shown : (a b : Shown) → is_shown a b ≡ true → a ≡ b
one_shown (Emitted q z) (Emitted r y) e =
    let h = and_parts (q == r) (int_eq z y) e in
    let a : q ≡ r = eqb-true q r h.0 in
    let b : z ≡ y = (Decides-int_eq z y).0 h.1 in
    ap (λ x. Emitted x z) a ∙ ap (λ x. Emitted r x) b
one_shown (Emitted q z) (Used m) e = absurd (cc (e))
one_shown (Emitted q z) (Finished m) e = absurd (cc (e))
one_shown (Emitted q z) (Tagged m) e = absurd (cc (e))
one_shown (Used n) (Emitted r y) e = absurd (cc (e))
one_shown (Used n) (Used m) e = ap (λ x. Used x) (eqb-true n m e)
one_shown (Used n) (Finished m) e = absurd (cc (e))
one_shown (Used n) (Tagged m) e = absurd (cc (e))
one_shown (Finished n) (Emitted r y) e = absurd (cc (e))
one_shown (Finished n) (Used m) e = absurd (cc (e))
one_shown (Finished n) (Finished m) e = ap (λ x. Finished x) (eqb-true n m e)
one_shown (Finished n) (Tagged m) e = absurd (cc (e))
one_shown (Tagged n) (Emitted r y) e = absurd (cc (e))
one_shown (Tagged n) (Used m) e = absurd (cc (e))
one_shown (Tagged n) (Finished m) e = absurd (cc (e))
one_shown (Tagged n) (Tagged m) e = ap (λ x. Tagged x) (eqb-true n m e)

shown_own : (a : Shown) → is_shown a a ≡ true
shown_own (Emitted q z) = ap (λ b. b && int_eq z z) (eq-eqb q q refl) ∙ (Decides-int_eq z z).1 refl
shown_own (Used n) = eq-eqb n n refl
shown_own (Finished n) = eq-eqb n n refl
shown_own (Tagged n) = eq-eqb n n refl

-- what equals what was said
one_entered : (s : Said) (r : ℕ) → is_said s (Entered r) ≡ true → s ≡ Entered r
one_entered (Entered k) r e = ap (λ x. Entered x) (eqb-true k r e)
one_entered (Ended Halted) r e = absurd (cc (e))
one_entered (Ended (Trapped k n)) r e = absurd (cc (e))
one_entered said r e = absurd (cc (e))

one_committed : (s : Said) (r : ℕ) → is_said s (Committed r) ≡ true → s ≡ Committed r
one_committed (Committed k) r e = ap (λ x. Committed x) (eqb-true k r e)
one_committed (Ended Halted) r e = absurd (cc (e))
one_committed (Ended (Trapped k n)) r e = absurd (cc (e))
one_committed said r e = absurd (cc (e))

one_showed : (s : Said) (a : Shown) → is_said s (Showed a) ≡ true → s ≡ Showed a
one_showed (Showed b) a e = ap (λ x. Showed x) (one_shown b a e)
one_showed (Ended Halted) a e = absurd (cc (e))
one_showed (Ended (Trapped k n)) a e = absurd (cc (e))
one_showed said a e = absurd (cc (e))

one_ended : (s : Said) (how : Ending) → is_said s (Ended how) ≡ true → s ≡ Ended how
one_ended (Ended Halted) Halted e = refl
one_ended (Ended Halted) (Trapped j m) e = absurd (cc (e))
one_ended (Ended (Trapped k n)) Halted e = absurd (cc (e))
one_ended (Ended (Trapped k n)) (Trapped j m) e =
    let h = and_parts (is_kind k j) (n == m) e in
    ap (λ x. Ended (Trapped x n)) (one_kind k j h.0) ∙ ap (λ x. Ended (Trapped j x)) (eqb-true n m h.1)
one_ended (Sensed a b) how e = absurd (cc (e))
one_ended said how e = absurd (cc (e))

said_own : (s : Said) → IsTelling s → is_said s s ≡ true
said_own (Sensed a z) k = ap (λ b. b && int_eq z z) (eq-eqb a a refl) ∙ (Decides-int_eq z z).1 refl
said_own (Showed a) k = shown_own a
said_own (Entered r) k = eq-eqb r r refl
said_own (Committed r) k = eq-eqb r r refl
said_own (Ended Halted) k = refl
said_own (Ended (Trapped a n)) k = ap (λ b. b && (n == n)) (kind_own a) ∙ eq-eqb n n refl
said_own (Aborted r) k = absurd k
said_own (Off m) k = absurd k
said_own Dark k = absurd k

one_words : (xs ys : List ℤ) → are_words xs ys ≡ true → xs ≡ ys
one_words [] [] e = refl
one_words [] (y ∷ ys) e = absurd (cc (e))
one_words (x ∷ xs) [] e = absurd (cc (e))
one_words (x ∷ xs) (y ∷ ys) e =
    let h = and_parts (int_eq x y) (are_words xs ys) e in
    ap (λ z. z ∷ xs) ((Decides-int_eq x y).0 h.0) ∙ ap (λ l. y ∷ l) (one_words xs ys h.1)

words_own : (xs : List ℤ) → are_words xs xs ≡ true
words_own [] = refl
words_own (x ∷ xs) = ap (λ b. b && are_words xs xs) ((Decides-int_eq x x).1 refl) ∙ words_own xs

-- ---- outcomes

words_aged : (before : ℕ → ℕ) (hs : List Held) → words_of (map (aged_held before) hs) ≡ words_of hs
words_aged before [] = refl
words_aged before (h ∷ hs) = ap (λ l. h.words ++ l) (words_aged before hs)

left_words : (before : ℕ → ℕ) (c : ℕ) (o : Outcome) → words_of (store_in (aged_outcome before c o)).nv ≡ words_of (store_in o).nv
left_words before c (Went σ) = words_aged before σ.nv
left_words before c (Returned v σ) = words_aged before σ.nv
left_words before c (Stopped s σ) = words_aged before σ.nv

taken_aged : (before : ℕ → ℕ) (c : ℕ) (o : Outcome) → outages (aged_outcome before c o) ≡ c
taken_aged before c (Went σ) = refl
taken_aged before c (Returned v σ) = refl
taken_aged before c (Stopped s σ) = refl

abbrev halted : Event
halted = record { said = Ended Halted; samples = []; instance = 0 }

module _ (p : TProgram) (regions : List TRegion) where
  over_stopped : (fs : List Frame) (s : Stop) (σ : Store) → step p regions union of_samples fs (Stopped s σ) ≡ Over
  over_stopped [] s σ = refl
  over_stopped (f ∷ fs) s σ = refl

module _ (p : TProgram) (regions : List TRegion) (nv : Option (List ℤ)) (q : List Told) (t : ℕ) (w : Watch) (h : IsHonestSoFar p regions nv q) (k : IsWatch p regions q w) where
  abbrev V : List ℤ
  V = samples_in (erase q)

  abbrev T : List ℕ
  T = offs_before 0 (erase q)

  abbrev C : ℕ
  C = offs_in 0 (erase q)

  abbrev known : ℕ → ℕ
  known j = get_or T j 0

  knows : Agrees T known
  knows j l = refl

  -- the report with an item that says this
  abbrev with : Said → List Told
  with s = q ++ item t s ∷ []

  -- ---- a run that is over

  over_no : (s : Said) → IsTelling s → w.now.over ≡ true → IsHonestSoFar p regions nv (with s) → ⊥
  over_no s l o x =
      too_long (without_offs (erase q)) s (subst (λ m. IsPrefixOf (without_offs (erase q) ++ s ∷ []) m) (k.now.whole o (samples_in (item t s ∷ []))) (said_back p regions nv q t s l x))

  over_right : (s : Said) → IsTelling s → (n : ℕ) → w.now.over ≡ true → IsAnswer p regions nv (with s) (on_next p nv regions w s (steps_on p regions n w.now))
  over_right s l n o =
      ⊎_elim
      (λ e. subst (λ x. IsAnswer p regions nv (with s) (on_next p nv regions w s x)) (sym e) (over_no s l o))
      (λ e. subst (λ x. IsAnswer p regions nv (with s) (on_next p nv regions w s x)) (sym e) (answers s (over_no s l o)))
      (stays p regions V T C k.now.past k.now.fs k.now.o w.now k.now.follows (k.now.stands o) n)
    where
      halts : (out : Outcome) → (IsHonestSoFar p regions nv (with (Ended Halted)) → ⊥) → IsAnswer p regions nv (with (Ended Halted)) (at_end p nv w w.now out)
      halts (Stopped a σ) never = never
      halts (Went σ) never =
          subst (λ b. IsAnswer p regions nv (with (Ended Halted))
          (if not b && has_words p nv nv (words p nv (Went σ)) then Some (record w { now = record w.now { over = true } }) else None)) (sym o) never
      halts (Returned v σ) never =
          subst (λ b. IsAnswer p regions nv (with (Ended Halted))
          (if not b && has_words p nv nv (words p nv (Returned v σ)) then Some (record w { now = record w.now { over = true } }) else None)) (sym o) never

      answers : (s : Said) → (IsHonestSoFar p regions nv (with s) → ⊥) → IsAnswer p regions nv (with s) (on_end p nv w s w.now)
      answers (Ended Halted) never = halts w.now.out never
      answers said never = never

  -- ---- a run under way

  module _ (off : w.now.over ≡ false) where
    abbrev g : IsGoing p (erase q) k.now.past w.now.sets
    g = k.now.going off

    abbrev all : List Lived
    all = lives_of (erase q) k.now.past

    timely : AreTimely p all
    timely = subst (AreTimely p) (lived_same p regions V (erase q) (in_order k.now.past) (begins_now p regions V k.now.past k.now.fs k.now.o k.now.follows.under) g.said) h.timely

    -- another event than an input, told as the next item
    one_lived : (s : Said) (x : Event) → is_mark x.said ≡ false → ((es : List Event) → lives s C es (λ m fs. []) ≡ live C es (λ fs. []))
        → lived_from 0 (erase q ++ item t s ∷ []) (unmarked (in_order k.now.past ++ x ∷ [])) ≡ all ++ record { offs = C; event = x } ∷ []
    one_lived s x m l =
        lives_more p regions t s (erase q) x (in_order k.now.past) g.said
        ∙ ap (λ y. all ++ y) (l (unmarked (x ∷ [])) ∙ ap (λ b. live C (if b then [] else x ∷ []) (λ fs. [])) m)

    -- the report ends with this item
    module _ (how : Ending) (es : List Event) (ending : Left) (ws : List ℤ)
        (run : (x : List ℤ) → marked_run p regions (V ++ x) ≡ record { events = es; ending = ending; nv = ws }) (done : ending ≡ AtShort → ⊥)
        (tells : map (λ x. x.said) es ≡ without_offs (erase q ++ item t (Ended how) ∷ []))
        (lived : AreTimely p (lived_from 0 (erase q ++ item t (Ended how) ∷ []) (unmarked es)))
        (past : List Event) (fs : List Frame) (o : Outcome) (now : Way) (follows : Follows p regions V T C past fs o now.frames now.out)
        (over : step p regions union of_samples fs o ≡ Over) (same : Same w.now now) (counted : AreCounted p now.sets now.frames (store_in now.out).blocks) where
      run_now : marked_run p regions (kept_samples (with (Ended how))) ≡ record { events = es; ending = ending; nv = ws }
      run_now =
          ap (λ l. marked_run p regions (samples_in l)) (added p regions nv q t (Ended how) tt)
          ∙ ap (marked_run p regions) (samples_same p regions nv q t (Ended how) tt tt ∙ sym (append-nil V)) ∙ run []

      nv_now : (source_run p (kept_samples (with (Ended how)))).nv ≡ ws
      nv_now = sym (ap (λ r. r.nv) (only_tell p regions (kept_samples (with (Ended how))))) ∙ ap (λ r. r.nv) run_now

      whole : nv ≡ Some ws → IsWhole p regions (with (Ended how)) nv
      whole e = record {
        said = ap without_offs (added p regions nv q t (Ended how) tt) ∙ sym tells ∙ sym (ap said_in run_now);
        over = λ z. done (sym (ap (λ r. r.ending) run_now) ∙ z);
        left = e ∙ ap (λ l. Some l) (sym nv_now);
      }

      finish : (o : Option (List ℤ)) → o ≡ nv → (given : List ℤ) → given ≡ ws → (b : Bool) → has_words p nv o given ≡ b
          → IsAnswer p regions nv (with (Ended how)) (if b then Some (record w { now = record now { over = true } }) else None)
      finish None e given is true f = absurd (cc (f))
      finish None e given is false f = λ z. let no : None ≡ Some (source_run p (kept_samples (with (Ended how)))).nv = e ∙ (z.whole how (q, t, refl)).left in absurd (cc (no))
      finish (Some vs) e given is false f = λ z.
          let so : Some vs ≡ Some ws = e ∙ (z.whole how (q, t, refl)).left ∙ ap (λ l. Some l) nv_now in
          let vw : vs ≡ ws = cc (so) in
          absurd (let no : true ≡ false = sym (words_own vs) ∙ ap (are_words vs) (vw ∙ sym is) ∙ f in cc (no))
      finish (Some vs) e given is true f =
          let vw : vs ≡ ws = one_words vs given f ∙ is in (
            honest_more p regions nv q t (Ended how) tt V es (record { rest = []; is = ap (λ r. r.events) (ap (marked_run p regions) (sym (append-nil V)) ∙ run []) ∙ sym (append-nil es) })
                (samples_same p regions nv q t (Ended how) tt tt) tells h.outside lived (λ how' d. whole (sym e ∙ ap (λ l. Some l) vw)),
            record {
              now = way_more p regions nv q t (Ended how) tt V T past fs o (record now { over = true }) (samples_same p regions nv q t (Ended how) tt tt)
                  (table_same p regions nv q t (Ended how) tt tt) follows
                  (k.now.inside ∙ sym same.inside) (λ d. absurd (cc (d))) (λ d x. ap said_in (run x) ∙ tells) (λ d. over) counted;
              saved = saved_more t (Ended how) p regions q tt w.saved k.saved;
            },
          )

    -- ---- it says something

    module _ (e : Event) (now : Way) (y : Saying p regions V T C k.now.past w.now e now) (counted : AreCounted p now.sets now.frames (store_in now.out).blocks)
        (tag : IsTagOf p (store_in now.out).blocks e) where
      abbrev past' : List Event
      past' = y.event ∷ k.now.past

      abbrev u0 : Lived
      u0 = record { offs = C; event = y.event }

      heard : y.event.said ≡ e.said
      heard = ap (λ z. z.said) (y.age known knows)

      now_off : now.over ≡ false
      now_off = y.same.over ∙ off

      seen : IsSeen p all T now.sets
      seen = subst (IsSeen p all T) (sym y.same.sets) g.seen

      silent : (j : ℕ) → IsInput j y.event → ⊥
      silent = not_input y.event y.no_input

      other : (s : Said) → IsTelling s → (s ≡ y.event.said → ⊥) → IsHonestSoFar p regions nv (with s) → ⊥
      other s l d z =
          let x : List ℤ = samples_in (item t s ∷ []) in
          d (hears.says_one (without_offs (erase q)) (said_in (marked_run p regions (V ++ x))) s y.event.said (said_back p regions nv q t s l z)
          (subst (λ m. IsPrefixOf m (said_in (marked_run p regions (V ++ x)))) (told_last y.event k.now.past ∙ ap (λ m. m ++ y.event.said ∷ []) g.said)
          (hears.begins_it p regions V past' y.fs y.o y.follows.under x)))

      differs : (s : Said) → IsTelling s → is_said e.said s ≡ false → s ≡ y.event.said → ⊥
      differs s l f d = absurd (let no : true ≡ false = sym (subst (λ z. is_said z s ≡ true) (d ∙ heard) (said_own s l)) ∙ f in cc (no))

      module _ (s : Said) (l : IsTelling s) (same : s ≡ y.event.said) where
        quiet : IsNoInput s
        quiet = subst IsNoInput (sym same) y.no_input

        tells : said_so_far past' ≡ without_offs (erase q ++ item t s ∷ [])
        tells =
            told_last y.event k.now.past ∙ ap (λ m. m ++ y.event.said ∷ []) g.said ∙ ap (λ m. without_offs (erase q) ++ m ∷ []) (sym same) ∙ sym (said_more p regions nv q t s l)

        begun : Begins (in_order past') (marked_run p regions V).events
        begun = begins_now p regions V past' y.fs y.o y.follows.under

        vs : samples_in (erase q ++ item t s ∷ []) ≡ V
        vs = samples_same p regions nv q t s l quiet

        ts : offs_before 0 (erase q ++ item t s ∷ []) ≡ T
        ts = table_same p regions nv q t s l quiet

        honest : AreTimely p (lives_of (erase q ++ item t s ∷ []) past') → ((how : Ending) → s ≡ Ended how → ⊥) → IsHonestSoFar p regions nv (with s)
        honest m n = honest_more p regions nv q t s l V (in_order past') begun vs tells h.outside m (λ how d. absurd (n how d))

        back : IsHonestSoFar p regions nv (with s) → AreTimely p (lives_of (erase q ++ item t s ∷ []) past')
        back = timely_back p regions nv q t s l V (in_order past') begun vs tells

        way : (sets : List Instance) (inside : Bool) → inside_after w.now.inside s ≡ inside → (all' : List Lived) → lives_of (erase q ++ item t s ∷ []) past' ≡ all'
            → AreNumbered all' T → IsSeen p all' T sets → AreCounted p sets now.frames (store_in now.out).blocks
            → IsWay p regions (erase (with s)) (record { frames = now.frames; out = now.out; sets = sets; inside = inside; over = now.over })
        way sets inside i all' as' n m c =
            way_more p regions nv q t s l V T past' y.fs y.o (record { frames = now.frames; out = now.out; sets = sets; inside = inside; over = now.over }) vs ts y.follows
            (ap (λ b. inside_after b s) k.now.inside ∙ i)
            (λ d. going_more p regions nv q t s l T past' sets all' tells ts as' n m)
            (λ d. absurd (let no : true ≡ false = sym d ∙ now_off in cc (no)))
            (λ d. absurd (let no : true ≡ false = sym d ∙ now_off in cc (no))) c

        -- a mark
        mark : ((es : List Event) → lives s C es (λ m fs. []) ≡ []) → ((how : Ending) → s ≡ Ended how → ⊥) → (inside : Bool) → inside_after w.now.inside s ≡ inside
            → (saved : Option (ℕ × Way)) → IsSaved p regions (with s) saved → IsAnswer p regions nv (with s) (Some (record { now = record now { inside = inside }; saved = saved }))
        mark none n inside i saved m =
            let same_lives : lives_of (erase q ++ item t s ∷ []) past' ≡ all =
            lives_more p regions t s (erase q) y.event (in_order k.now.past) g.said ∙ ap (λ z. all ++ z) (none (unmarked (y.event ∷ []))) ∙ append-nil all in (
              honest (subst (AreTimely p) (sym same_lives) timely) n,
              record { now = way now.sets inside i all same_lives g.numbered seen counted; saved = m },
            )

      entered : (r : ℕ) (b : Bool) → is_said e.said (Entered r) ≡ b
          → IsAnswer p regions nv (with (Entered r)) (if b then Some (record { now = record now { inside = true }; saved = Some (r, w.now) }) else None)
      entered r false f = other (Entered r) tt (differs (Entered r) tt f)
      entered r true f =
          mark (Entered r) tt (sym (heard ∙ one_entered e.said r f)) (λ es. refl) (λ how d. absurd (cc (d))) true refl (Some (r, w.now)) (q, [], t, refl, tt, k.now)

      committed : (r : ℕ) (b : Bool) → is_said e.said (Committed r) ≡ b
          → IsAnswer p regions nv (with (Committed r)) (if b then Some (record { now = record now { inside = false }; saved = None }) else None)
      committed r false f = other (Committed r) tt (differs (Committed r) tt f)
      committed r true f =
          mark (Committed r) tt (sym (heard ∙ one_committed e.said r f)) (λ es. refl) (λ how d. absurd (cc (d))) false refl None
          (λ x d. let last : last_mark None (with (Committed r)) ≡ Some (Committed r) = last_mark-more t (Committed r) None q in absurd (cc (d, last)))

      -- an event of the source
      module _ (a : Shown) (same : Showed a ≡ y.event.said) where
        lived : lives_of (erase q ++ item t (Showed a) ∷ []) past' ≡ all ++ u0 ∷ []
        lived = one_lived (Showed a) y.event (ap is_mark (sym same)) (λ es. refl)

        shown : (sets : List Instance) → AreTimely p (all ++ u0 ∷ []) → IsSeen p (all ++ u0 ∷ []) T sets → AreCounted p sets now.frames (store_in now.out).blocks
            → IsAnswer p regions nv (with (Showed a)) (Some (record w { now = record now { sets = sets } }))
        shown sets m n c = (
          honest (Showed a) tt same (subst (AreTimely p) (sym lived) m) (λ how d. absurd (cc (d))),
          record {
            now = way (Showed a) tt same sets now.inside (sym y.same.inside) (all ++ u0 ∷ []) lived (numbered_more p all T now.sets g.numbered timely seen u0 silent) n c;
            saved = saved_more t (Showed a) p regions q tt w.saved k.saved;
          },
        )

        late : (AreTimely p (all ++ u0 ∷ []) → ⊥) → IsHonestSoFar p regions nv (with (Showed a)) → ⊥
        late n z = n (subst (AreTimely p) lived (back (Showed a) tt same z))

        -- it is no use, and a tag of no set
        plain : (IsUse y.event.said → ⊥) → ((n : ℕ) (set : ℕ × ℤ) → y.event.said ≡ Showed (Tagged n) → set_of p n ≡ Some set → ⊥)
            → IsAnswer p regions nv (with (Showed a)) (Some (record w { now = record now { sets = now.sets } }))
        plain no_use no_tag =
            shown now.sets
            (timely_more p all T now.sets g.numbered timely seen u0 silent (λ us. absurd (no_use us)) (no_tags p all T now.sets g.numbered timely seen u0 silent no_tag))
            (seen_more p all T now.sets g.numbered timely seen u0 silent no_tag (λ j us. absurd (no_use us))) counted

        age : HasAge T y.event.samples e.samples
        age before m = ap (λ z. z.samples) (y.age before m)

        -- a use
        uses : IsUse y.event.said → ((n : ℕ) → y.event.said ≡ Showed (Tagged n) → ⊥) → (c : Bool) → is_new (outages now.out) e.samples ≡ c
            → IsAnswer p regions nv (with (Showed a)) (if c then Some (record w { now = record now { sets = now.sets } }) else None)
        uses us no_tag c m = by c (ap (λ n. is_new n e.samples) (sym (sym (ap outages (y.follows.out_age known knows)) ∙ taken_aged known C y.o)) ∙ m)
          where
            by : (c : Bool) → is_new C e.samples ≡ c → IsAnswer p regions nv (with (Showed a)) (if c then Some (record w { now = record now { sets = now.sets } }) else None)
            by true m =
                shown now.sets
                (use_timely p all T now.sets g.numbered timely seen u0 silent us e.samples C refl age m
                (no_tags p all T now.sets g.numbered timely seen u0 silent (λ n set d s. absurd (no_tag n d))))
                (seen_more p all T now.sets g.numbered timely seen u0 silent (λ n set d s. absurd (no_tag n d))
                (λ j x s. use_below p all T now.sets g.numbered timely seen u0 silent us e.samples C refl age m j s)) counted
            by false m = late (use_late p all T now.sets g.numbered timely seen u0 silent us e.samples C refl age m)

      tagged : (n : ℕ) → Showed (Tagged n) ≡ y.event.said → (o : Option (ℕ × ℤ)) → set_of p n ≡ o → (c : Bool) → may_tag o e now.sets ≡ c
          → IsAnswer p regions nv (with (Showed (Tagged n))) (if c then Some (record w { now = record now { sets = with_tag o e now.sets } }) else None)
      tagged n same None so true m =
          plain (Tagged n) same (λ us. subst IsUse (sym same) us)
          (λ n' set d s.
          let x : Showed (Tagged n) ≡ Showed (Tagged n') = same ∙ d in
          let nn : n ≡ n' = cc (x) in
          let no : None ≡ Some set = sym so ∙ ap (set_of p) nn ∙ s in
          absurd (cc (no)))
      tagged n same None so false m = absurd (cc (m))
      tagged n same (Some set) so c m = by c m
        where
          of_now : e.instance ≡ times p set (store_in now.out).blocks
          of_now = tag n set (sym (same ∙ heard)) so

          later : falls_at (Some set) e now.sets ≡ false
          later = falls_not p now.sets now.frames (store_in now.out).blocks counted e set of_now

          instance : e.instance ≡ y.event.instance
          instance = sym (ap (λ z. z.instance) (y.age known knows))

          by : (c : Bool) → may_tag (Some set) e now.sets ≡ c
              → IsAnswer p regions nv (with (Showed (Tagged n))) (if c then Some (record w { now = record now { sets = with_tag (Some set) e now.sets } }) else None)
          by true m =
              shown (Tagged n) same (with_tag (Some set) e now.sets)
              (tag_timely p all T now.sets g.numbered timely seen u0 n set (sym same) so e (age (Tagged n) same) instance later m)
              (tag_seen p all T now.sets g.numbered timely seen u0 n set (sym same) so e (age (Tagged n) same) instance later m)
              (tag_counted p now.sets now.frames (store_in now.out).blocks counted e set of_now)
          by false m =
              late (Tagged n) same (tag_apart p all T now.sets g.numbered timely seen u0 n set (sym same) so e (age (Tagged n) same) instance later m)

      showed : (a : Shown) (b c : Bool) → is_said e.said (Showed a) ≡ b → may_show p nv now a e ≡ c
          → IsAnswer p regions nv (with (Showed a)) (if b && c then Some (record w { now = with_shown p nv now a e }) else None)
      showed a false c f m = other (Showed a) tt (differs (Showed a) tt f)
      showed a true c f m = by a (sym (heard ∙ one_showed e.said a f)) c m
        where
          by : (a : Shown) → Showed a ≡ y.event.said → (c : Bool) → may_show p nv now a e ≡ c
              → IsAnswer p regions nv (with (Showed a)) (if c then Some (record w { now = with_shown p nv now a e }) else None)
          by (Emitted r z) same true m =
              plain (Emitted r z) same (λ us. subst IsUse (sym same) us) (λ n set d s. let x : Showed (Emitted r z) ≡ Showed (Tagged n) = same ∙ d in absurd (cc (x)))
          by (Emitted r z) same false m = absurd (cc (m))
          by (Used n) same c m = uses (Used n) same (subst IsUse same tt) (λ n' d. let x : Showed (Used n) ≡ Showed (Tagged n') = same ∙ d in absurd (cc (x))) c m
          by (Finished n) same c m = uses (Finished n) same (subst IsUse same tt) (λ n' d. let x : Showed (Finished n) ≡ Showed (Tagged n') = same ∙ d in absurd (cc (x))) c m
          by (Tagged n) same c m = tagged n same (set_of p n) refl c m

      -- a trap
      ended : (how : Ending) (b c : Bool) → is_said e.said (Ended how) ≡ b → has_words p nv nv (words p nv now.out) ≡ c
          → IsAnswer p regions nv (with (Ended how)) (if b && c then Some (record w { now = record now { over = true } }) else None)
      ended how false c f m = other (Ended how) tt (differs (Ended how) tt f)
      ended how true c f m = by (sym (heard ∙ one_ended e.said how f)) y.last
        where
          by : Ended how ≡ y.event.said → IsLast y.event y.o → IsAnswer p regions nv (with (Ended how)) (if c then Some (record w { now = record now { over = true } }) else None)
          by same (inl n) = absurd (subst IsNoEnd (sym same) n)
          by same (inr stop) =
              finish how (in_order past') AtTrap (words_of stop.0.nv) run (λ d. absurd (cc (d))) (tells (Ended how) tt same) lived past' y.fs y.o now y.follows over y.same counted nv refl
              (words p nv now.out)
              (ap (λ o. words_of (store_in o).nv) (sym (y.follows.out_age known knows)) ∙ left_words known C y.o ∙ ap (λ o. words_of (store_in o).nv) stop.1) c m
            where
              over : step p regions union of_samples y.fs y.o ≡ Over
              over = ap (step p regions union of_samples y.fs) stop.1 ∙ over_stopped p regions y.fs Trap stop.0

              none : stop.0.events ≡ []
              none = sym (ap events_in stop.1) ∙ y.follows.under.none

              run : (x : List ℤ) → marked_run p regions (V ++ x) ≡ record { events = in_order past'; ending = AtTrap; nv = words_of stop.0.nv }
              run x =
                  over_always p regions V past' y.fs y.o y.follows.under over x ∙ ap (λ o. trace_of (with_more past' x o)) stop.1
                  ∙ ap (λ l. record { events = in_order (l ++ past'); ending = AtTrap; nv = words_of stop.0.nv }) none

              lived : AreTimely p (lived_from 0 (erase q ++ item t (Ended how) ∷ []) (unmarked (in_order past')))
              lived =
                  subst (AreTimely p) (sym (one_lived (Ended how) y.event (ap is_mark (sym same)) (λ es. refl)))
                  (timely_more p all T now.sets g.numbered timely seen u0 silent (λ us. absurd (subst IsUse (sym same) us))
                  (no_tags p all T now.sets g.numbered timely seen u0 silent (λ n set d s. let x : Ended how ≡ Showed (Tagged n) = same ∙ d in absurd (cc (x)))))

      says : (s : Said) → IsTelling s → IsAnswer p regions nv (with s) (on_event p nv w s e now)
      says (Entered r) l = entered r (is_said e.said (Entered r)) refl
      says (Committed r) l = committed r (is_said e.said (Committed r)) refl
      says (Showed a) l = showed a (is_said e.said (Showed a)) (may_show p nv now a e) refl refl
      says (Ended how) l = ended how (is_said e.said (Ended how)) (has_words p nv nv (words p nv now.out)) refl refl
      says (Sensed a z) l = other (Sensed a z) tt (λ d. subst IsNoInput (sym d) y.no_input)
      says (Aborted r) l = absurd l
      says (Off m) l = absurd l
      says Dark l = absurd l

    -- ---- it wants a sample

    module _ (sensor : ℕ) (gs : List Frame) (τ : Store) (y : Wanting p regions V T C k.now.past w.now sensor gs τ) (counted : AreCounted p w.now.sets gs τ.blocks) where
      short : (s : Said) → IsTelling s → IsNoInput s → IsHonestSoFar p regions nv (with s) → ⊥
      short s l n z =
          let run = (hears.is_short p regions V k.now.past y.fs y.after y.o sensor y.σ y.under y.asks).0 in
          let all_said : said_in (marked_run p regions V) ≡ without_offs (erase q) = run ∙ ap (λ m. said_so_far (m ++ k.now.past)) y.silent ∙ g.said in
          let none : V ++ samples_in (item t s ∷ []) ≡ V = ap (λ m. V ++ m) (silent_facts t s n).0 ∙ append-nil V in
          too_long (without_offs (erase q)) s
          (subst (λ m. IsPrefixOf (without_offs (erase q) ++ s ∷ []) m) all_said
          (subst (λ m. IsPrefixOf (without_offs (erase q) ++ s ∷ []) (said_in (marked_run p regions m))) none (said_back p regions nv q t s l z)))

      module _ (z : ℤ) where
        abbrev input : Event
        input = record { said = Sensed sensor z; samples = y.σ.taken ∷ []; instance = 0 }

        abbrev past_in : List Event
        past_in = input ∷ k.now.past

        abbrev o' : Outcome
        o' = cleared (sensed p regions union of_samples sensor z y.σ)

        under : Under p regions (V ++ z ∷ []) past_in y.after o'
        under =
            subst (λ m. Under p regions (V ++ z ∷ []) (input ∷ (m ++ k.now.past)) y.after o') y.silent
            (hears.takes_one p regions V k.now.past y.fs y.after y.o sensor y.σ z y.under y.asks)

        abbrev u_in : Lived
        u_in = record { offs = C; event = input }

        abbrev T' : List ℕ
        T' = T ++ C ∷ []

        fewer : (before : ℕ → ℕ) → Agrees T' before → Agrees T before
        fewer before a j l =
            let n : length T' ≡ suc (length T) = length-last T C in
            a j (omega (arith, n, l)) ∙ get_first T (C ∷ []) j l

        next_at : (before : ℕ → ℕ) → Agrees T' before → before y.σ.taken ≡ C
        next_at before a =
            let n : length T' ≡ suc (length T) = length-last T C in
            ap before y.count ∙ a (length T) (omega (arith, n)) ∙ get_last T C

        follows : Follows p regions (V ++ z ∷ []) T' C past_in y.after o' gs (cleared (sensed p regions join_ages of_ages sensor z τ))
        follows = record {
          under = under;
          frames_age = λ before a. y.frames_age before (fewer before a);
          out_age = λ before a.
              cleared_aged before C (sensed p regions union of_samples sensor z y.σ)
              ∙ ap cleared (sym (senses_age p regions before C sensor z y.σ (next_at before a)) ∙ ap (sensed p regions join_ages of_ages sensor z) (y.store_age before (fewer before a)));
          count = ap suc y.count ∙ sym (length-last T C);
        }

        is_input : IsInput (length T) input
        is_input = (sensor, z, refl, ap (λ n. n ∷ []) y.count)

        sensed_right : (a : ℕ) (b : Bool) → (a == sensor) ≡ b
            → IsAnswer p regions nv (with (Sensed a z)) (if b then Some (record w { now = record w.now { frames = gs; out = cleared (sensed p regions join_ages of_ages sensor z τ) } }) else None)
        sensed_right a false f = λ x.
            let mine : IsPrefixOf (without_offs (erase q) ++ Sensed sensor z ∷ []) (said_in (marked_run p regions (V ++ z ∷ []))) =
            subst (λ m. IsPrefixOf m (said_in (marked_run p regions (V ++ z ∷ [])))) (told_last input k.now.past ∙ ap (λ m. m ++ Sensed sensor z ∷ []) g.said)
            (subst (λ m. IsPrefixOf (said_so_far past_in) (said_in (marked_run p regions m))) (append-nil (V ++ z ∷ [])) (hears.begins_it p regions (V ++ z ∷ []) past_in y.after o' under [])) in
            let same : Sensed a z ≡ Sensed sensor z =
            hears.says_one (without_offs (erase q)) (said_in (marked_run p regions (V ++ z ∷ []))) (Sensed a z) (Sensed sensor z) (said_back p regions nv q t (Sensed a z) tt x) mine in
            let as' : a ≡ sensor = cc (same) in
            absurd (let no : true ≡ false = sym (eq-eqb a sensor as') ∙ f in cc (no))
        sensed_right a true f = (
          honest_more p regions nv q t (Sensed a z) tt (V ++ z ∷ []) (in_order past_in) (begins_now p regions (V ++ z ∷ []) past_in y.after o' under) vs tells h.outside
              (subst (AreTimely p) (sym lived) (input_timely p all T w.now.sets g.numbered timely g.seen u_in C is_input refl)) (λ how d. absurd (cc (d))),
          record {
            now = way_more p regions nv q t (Sensed a z) tt (V ++ z ∷ []) T' past_in y.after o'
                (record w.now { frames = gs; out = cleared (sensed p regions join_ages of_ages sensor z τ) }) vs ts follows k.now.inside
                (λ d. going_more p regions nv q t (Sensed a z) tt T' past_in w.now.sets (all ++ u_in ∷ []) tells ts lived
                (input_numbered p all T w.now.sets g.numbered timely g.seen u_in C is_input refl) (input_seen p all T w.now.sets g.numbered timely g.seen u_in C is_input refl))
                (λ d. absurd (let no : true ≡ false = sym d ∙ off in cc (no)))
                (λ d. absurd (let no : true ≡ false = sym d ∙ off in cc (no))) counted;
            saved = saved_more t (Sensed a z) p regions q tt w.saved k.saved;
          },
        )
          where
            vs : samples_in (erase q ++ item t (Sensed a z) ∷ []) ≡ V ++ z ∷ []
            vs = samples_more p regions nv q t (Sensed a z) tt

            ts : offs_before 0 (erase q ++ item t (Sensed a z) ∷ []) ≡ T'
            ts = offs_before-more t (Sensed a z) 0 (erase q)

            tells : said_so_far past_in ≡ without_offs (erase q ++ item t (Sensed a z) ∷ [])
            tells =
                told_last input k.now.past ∙ ap (λ m. m ++ Sensed sensor z ∷ []) g.said ∙ ap (λ n. without_offs (erase q) ++ Sensed n z ∷ []) (sym (eqb-true a sensor f))
                ∙ sym (said_more p regions nv q t (Sensed a z) tt)

            lived : lives_of (erase q ++ item t (Sensed a z) ∷ []) past_in ≡ all ++ u_in ∷ []
            lived = one_lived (Sensed a z) input refl (λ es. refl)

      wants : (s : Said) → IsTelling s → IsAnswer p regions nv (with s) (on_want p nv regions w s sensor gs τ)
      wants (Sensed a z) l = sensed_right z a (a == sensor) refl
      wants (Aborted r) l = absurd l
      wants (Off m) l = absurd l
      wants Dark l = absurd l
      wants said l = short said l tt

    -- ---- it stands at its end

    module _ (now : Way) (y : Standing p regions V T C k.now.past w.now now) (counted : AreCounted p now.sets now.frames (store_in now.out).blocks) where
      -- what the run is, where it went through
      at_went : (σ : Store) → σ.events ≡ [] → (x : List ℤ)
          → (trace_of (with_more k.now.past x (Went σ))) ≡ record { events = in_order k.now.past ++ halted ∷ []; ending = AtEnd; nv = words_of σ.nv }
      at_went σ n x = ap (λ l. record { events = in_order (l ++ k.now.past) ++ halted ∷ []; ending = AtEnd; nv = words_of σ.nv }) n

      run_at : (x : List ℤ) → marked_run p regions (V ++ x) ≡ trace_of (with_more k.now.past x y.o)
      run_at x = over_always p regions V k.now.past y.fs y.o y.follows.under y.over x

      nothing : (o : Outcome) → y.o ≡ o → events_in o ≡ []
      nothing o e = ap events_in (sym e) ∙ y.follows.under.none

      run_of : (o : Outcome) → y.o ≡ o → (x : List ℤ) → marked_run p regions (V ++ x) ≡ trace_of (with_more k.now.past x o)
      run_of o e x = run_at x ∙ ap (λ u. trace_of (with_more k.now.past x u)) e

      -- where it stopped, it says no more
      no_more : (s : Said) → IsTelling s → said_in (marked_run p regions (V ++ samples_in (item t s ∷ []))) ≡ without_offs (erase q) → IsHonestSoFar p regions nv (with s) → ⊥
      no_more s l r z = too_long (without_offs (erase q)) s (subst (λ m. IsPrefixOf (without_offs (erase q) ++ s ∷ []) m) r (said_back p regions nv q t s l z))

      no_stop : (s : Said) → IsTelling s → (st : Stop) (σ : Store) → y.o ≡ Stopped st σ → IsHonestSoFar p regions nv (with s) → ⊥
      no_stop s l Trap σ e = no_more s l (ap said_in (run_of (Stopped Trap σ) e (samples_in (item t s ∷ []))) ∙ ap (λ m. said_so_far (m ++ k.now.past)) (nothing (Stopped Trap σ) e) ∙ g.said)
      no_stop s l Short σ e = no_more s l (ap said_in (run_of (Stopped Short σ) e (samples_in (item t s ∷ []))) ∙ ap (λ m. said_so_far (m ++ k.now.past)) (nothing (Stopped Short σ) e) ∙ g.said)

      -- where it went through, it says its end
      its_end : (s : Said) → IsTelling s → (σ : Store) → σ.events ≡ [] → ((x : List ℤ) → marked_run p regions (V ++ x) ≡ trace_of (with_more k.now.past x (Went σ)))
          → IsHonestSoFar p regions nv (with s) → s ≡ Ended Halted
      its_end s l σ n r z =
          let x : List ℤ = samples_in (item t s ∷ []) in
          let run : said_in (marked_run p regions (V ++ x)) ≡ without_offs (erase q) ++ Ended Halted ∷ [] =
          ap said_in (r x ∙ at_went σ n x) ∙ map-append (λ u. u.said) (in_order k.now.past) (halted ∷ []) ∙ ap (λ m. m ++ Ended Halted ∷ []) g.said in
          hears.says_one (without_offs (erase q)) (said_in (marked_run p regions (V ++ x))) s (Ended Halted) (said_back p regions nv q t s l z)
          ([], append-nil (without_offs (erase q) ++ Ended Halted ∷ []) ∙ sym run)

      no_other : (s : Said) → IsTelling s → (s ≡ Ended Halted → ⊥) → IsHonestSoFar p regions nv (with s) → ⊥
      no_other s l d z = by y.o refl
        where
          by : (o : Outcome) → y.o ≡ o → ⊥
          by (Went σ) e = d (its_end s l σ (nothing (Went σ) e) (run_of (Went σ) e) z)
          by (Returned v σ) e = d (its_end s l σ (nothing (Returned v σ) e) (run_of (Returned v σ) e) z)
          by (Stopped st σ) e = no_stop s l st σ e z

      -- the end is told
      told_end : (σ : Store) → σ.events ≡ [] → ((x : List ℤ) → marked_run p regions (V ++ x) ≡ trace_of (with_more k.now.past x (Went σ)))
          → IsAnswer p regions nv (with (Ended Halted)) (if has_words p nv nv (words_of (map (aged_held known) σ.nv)) then Some (record w { now = record now { over = true } }) else None)
      told_end σ n r =
          finish Halted (in_order k.now.past ++ halted ∷ []) AtEnd (words_of σ.nv) (λ x. r x ∙ at_went σ n x) (λ d. absurd (cc (d))) tells lived
          k.now.past y.fs y.o now y.follows y.over y.same counted nv refl
          (words_of (map (aged_held known) σ.nv)) (words_aged known σ.nv) (has_words p nv nv (words_of (map (aged_held known) σ.nv))) refl
        where
          tells : map (λ x. x.said) (in_order k.now.past ++ halted ∷ []) ≡ without_offs (erase q ++ item t (Ended Halted) ∷ [])
          tells =
              map-append (λ u. u.said) (in_order k.now.past) (halted ∷ []) ∙ ap (λ m. m ++ Ended Halted ∷ []) g.said ∙ sym (said_more p regions nv q t (Ended Halted) tt)

          quiet : (j : ℕ) → IsInput j halted → ⊥
          quiet j i = let x : Ended Halted ≡ Sensed i.0 i.1 = i.2 in absurd (cc (x))

          lived : AreTimely p (lived_from 0 (erase q ++ item t (Ended Halted) ∷ []) (unmarked (in_order k.now.past ++ halted ∷ [])))
          lived =
              subst (AreTimely p) (sym (one_lived (Ended Halted) halted refl (λ es. refl)))
              (timely_more p all T w.now.sets g.numbered timely g.seen (record { offs = C; event = halted }) quiet (λ us. absurd us)
              (no_tags p all T w.now.sets g.numbered timely g.seen (record { offs = C; event = halted }) quiet (λ n set d s. let x : Ended Halted ≡ Showed (Tagged n) = d in absurd (cc (x)))))

      halts : (o : Outcome) → y.o ≡ o → IsAnswer p regions nv (with (Ended Halted)) (at_end p nv w now (aged_outcome known C o))
      halts (Stopped st σ) e = no_stop (Ended Halted) tt st σ e
      halts (Went σ) e =
          subst (λ b. IsAnswer p regions nv (with (Ended Halted))
          (if not b && has_words p nv nv (words_of (map (aged_held known) σ.nv)) then Some (record w { now = record now { over = true } }) else None))
          (sym (y.same.over ∙ off)) (told_end σ (nothing (Went σ) e) (run_of (Went σ) e))
      halts (Returned v σ) e =
          subst (λ b. IsAnswer p regions nv (with (Ended Halted))
          (if not b && has_words p nv nv (words_of (map (aged_held known) σ.nv)) then Some (record w { now = record now { over = true } }) else None))
          (sym (y.same.over ∙ off)) (told_end σ (nothing (Returned v σ) e) (run_of (Returned v σ) e))

      stands : (s : Said) → IsTelling s → IsAnswer p regions nv (with s) (on_end p nv w s now)
      stands (Ended Halted) l = subst (λ o. IsAnswer p regions nv (with (Ended Halted)) (at_end p nv w now o)) (y.follows.out_age known knows) (halts y.o refl)
      stands (Aborted r) l = absurd l
      stands (Off m) l = absurd l
      stands Dark l = absurd l
      stands said l = no_other said l (λ d. absurd (cc (d)))

-- where a run under way is counted, so is what it does next
next_counted : (p : TProgram) (regions : List TRegion) (q : List Told) (w : Watch) (n : ℕ) (numbered : Numbered p) → IsWatch p regions q w
    → StaysCounted p regions (body_noted p numbered) w.now.sets (steps_on p regions n w.now)
next_counted p regions q w n numbered k =
    counted_on p regions (body_noted p numbered) n w.now k.now.counted
    (nothing_said p regions (samples_in (erase q)) (offs_before 0 (erase q)) (offs_in 0 (erase q)) k.now.past k.now.fs k.now.o w.now k.now.follows)

pub none_falls : NoneFalls
none_falls p regions q w n numbered k = rises p regions (body_noted p numbered) w.now.sets (steps_on p regions n w.now) (next_counted p regions q w n numbered k)

pub tells_right : TellsRight
tells_right p regions nv q t s w n numbered h k l made = by w.now.over refl
  where
    go : w.now.over ≡ false → (x : Next) → Leads p regions (samples_in (erase q)) (offs_before 0 (erase q)) (offs_in 0 (erase q)) k.now.past w.now x → IsMade x
        → StaysCounted p regions (body_noted p numbered) w.now.sets x → IsAnswer p regions nv (q ++ item t s ∷ []) (on_next p nv regions w s x)
    go o (Went_on now) y m c = absurd m
    go o (Stands now) y m c = stands p regions nv q t w h k o now y c s l
    go o (Wants a gs τ) y m c = wants p regions nv q t w h k o a gs τ y c s l
    go o (Says e now) y m c = says p regions nv q t w h k o e now y c.0 c.1 s l

    by : (b : Bool) → w.now.over ≡ b → IsAnswer p regions nv (q ++ item t s ∷ []) (on_next p nv regions w s (steps_on p regions n w.now))
    by true o = over_right p regions nv q t w h k s l n o
    by false o =
        go o (steps_on p regions n w.now)
        (onward p regions (samples_in (erase q)) (offs_before 0 (erase q)) (offs_in 0 (erase q)) n k.now.past k.now.fs k.now.o w.now k.now.follows) made
        (next_counted p regions q w n numbered k)
