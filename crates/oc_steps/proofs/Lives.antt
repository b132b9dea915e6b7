-- What a run under way and a report so far say of one another.
use Rattle.std.proofs.Common.{◌≡◌, ℕ, ℤ, Bool, true, false, List, [], ◌∷◌, ◌++◌, map, Option, refl, sym, ap, ◌∙◌, subst, append-nil}
use Rattle.std.specs.Prelude.{if◌then◌else◌}
use Rattle.std.proofs.lemmas.List.{map-append}
use Rattle.oc_tree.specs.Tree.{TProgram}
use Rattle.oc_tree.specs.Marked.{TRegion}
use Rattle.oc_tree.specs.Said.{Told}
use Rattle.oc_tree.specs.declared.said.Ending.{Ending}
use Rattle.oc_tree.specs.declared.said.Said.{Said}
use Rattle.oc_tree.specs.declared.said.Said.TheVariants.{Sensed, Entered, Committed, Aborted, Off, Dark, Ended}
use Rattle.oc_tree.specs.Samples.{union}
use Rattle.oc_meaning.specs.Store.{Event}
use Rattle.oc_meaning.specs.Cuts.{Begins}
use Rattle.oc_meaning.specs.Unmarked.{is_mark, unmarked}
use Rattle.oc_meaning.specs.Exec.{Outcome}
use Rattle.oc_meaning.specs.Run.{marked_run, source_run, said_in, in_order}
use Rattle.oc_meaning.proofs.Bare.{only_tell}
use Rattle.oc_items.specs.Erase.{erase, without_offs, without_mark, without_marks, inside_after, MayStand, HasNoOffInside}
use Rattle.oc_items.specs.Reports.{IsPrefixOf}
use Rattle.oc_items.proofs.Parting.{without_offs-append}
use Rattle.oc_honest.specs.Timely.{Lived, lived_from, AreTimely}
use Rattle.oc_steps.specs.Steps.{Frame, Over, step, of_samples}
use Rattle.oc_steps.specs.Counting.{AreCounted}
use Rattle.oc_steps.specs.Heard.{Under, said_so_far, store_in}
use Rattle.oc_honest.specs.Honest.{IsWhole, IsHonestSoFar}
use Rattle.oc_steps.specs.Erasing.{item, IsNoAbort}
use Rattle.oc_steps.specs.Freshness.{AreNumbered}
use Rattle.oc_steps.specs.Little.{IsNoInput}
use Rattle.oc_steps.specs.Fold.{Way, Instance}
use Rattle.oc_steps.specs.Watching.{samples_in, off_more, offs_in, with_input, offs_before, is_inside, lives_of, IsSeen, IsGoing, Follows, IsWay, IsTelling}
use Rattle.oc_steps.proofs.Erasing.{erases}
use Rattle.oc_steps.proofs.Telling.{events_first}
use Rattle.oc_steps.proofs.Adding.{samples_in-append, lived-append, offs_in-more, offs_before-more, is_inside-more, outside_more, ends_so}

pub unmarked-append : (xs ys : List Event) → unmarked (xs ++ ys) ≡ unmarked xs ++ unmarked ys
unmarked-append [] ys = refl
unmarked-append (x ∷ xs) ys = by (is_mark x.said) (unmarked-append xs ys)
  where
    by : (b : Bool) → unmarked (xs ++ ys) ≡ unmarked xs ++ unmarked ys
        → (if b then unmarked (xs ++ ys) else x ∷ unmarked (xs ++ ys)) ≡ (if b then unmarked xs else x ∷ unmarked xs) ++ unmarked ys
    by true h = h
    by false h = ap (λ l. x ∷ l) h

unmarked_said : (es : List Event) → map (λ e. e.said) (unmarked es) ≡ without_marks (map (λ e. e.said) es)
unmarked_said [] = refl
unmarked_said (x ∷ es) = by x.said refl (unmarked_said es)
  where
    by : (s : Said) → x.said ≡ s → map (λ e. e.said) (unmarked es) ≡ without_marks (map (λ e. e.said) es)
        → map (λ e. e.said) (if is_mark s then unmarked es else x ∷ unmarked es) ≡ without_mark s (without_marks (map (λ e. e.said) es))
    by (Entered r) e h = h
    by (Committed r) e h = h
    by it e h = ap (λ l. x.said ∷ l) h ∙ ap (λ s. s ∷ without_marks (map (λ e. e.said) es)) e

pub told_last : (e : Event) (past : List Event) → said_so_far (e ∷ past) ≡ said_so_far past ++ e.said ∷ []
told_last e past = map-append (λ x. x.said) (in_order past) (e ∷ [])

-- nothing is longer than itself
pub too_long : (ss : List Said) (s : Said) → IsPrefixOf (ss ++ s ∷ []) ss → ⊥
too_long [] s h = absurd (cc (h.1))
too_long (x ∷ ss) s h = too_long ss s (h.0, cc (h.1))

tell_facts : (t : ℕ) (s : Said) → IsTelling s → IsNoAbort s × (without_offs (item t s ∷ []) ≡ s ∷ []) × ((n : ℕ) → off_more s n ≡ n) × ((b : Bool) → MayStand b s)
tell_facts t (Sensed a b) k = (tt, refl, λ n. refl, λ b. tt)
tell_facts t (Aborted a) k = absurd k
tell_facts t (Off a) k = absurd k
tell_facts t Dark k = absurd k
tell_facts t said k = (tt, refl, λ n. refl, λ b. tt)

pub silent_facts : (t : ℕ) (s : Said) → IsNoInput s → (samples_in (item t s ∷ []) ≡ []) × ((n : ℕ) → with_input s n [] ≡ [])
silent_facts t (Sensed a b) k = absurd k
silent_facts t said k = (refl, λ n. refl)

module _ (p : TProgram) (regions : List TRegion) where
  pub begins_now : (v : List ℤ) (past : List Event) (fs : List Frame) (o : Outcome) → Under p regions v past fs o → Begins (in_order past) (marked_run p regions v).events
  begins_now v past fs o u = subst (λ l. Begins (in_order past) (marked_run p regions l).events) (append-nil v) (events_first p regions v past fs o u [])

  -- the events of these items
  said_by : (e : List Told) (es : List Event) → map (λ x. x.said) es ≡ without_offs e → map (λ x. x.said) (unmarked es) ≡ without_marks (without_offs e)
  said_by e es h = unmarked_said es ∙ ap without_marks h

  -- the source's events, as far as they were told
  pub lived_same : (v : List ℤ) (e : List Told) (es : List Event) → Begins es (marked_run p regions v).events → map (λ x. x.said) es ≡ without_offs e
      → lived_from 0 e (source_run p v).events ≡ lived_from 0 e (unmarked es)
  lived_same v e es b h =
      let all : (source_run p v).events ≡ unmarked es ++ unmarked b.rest =
      sym (ap (λ r. r.events) (only_tell p regions v)) ∙ ap unmarked b.is ∙ unmarked-append es b.rest in
      ap (lived_from 0 e) all
      ∙ sym (ap (λ l. lived_from 0 l (unmarked es ++ unmarked b.rest)) (append-nil e))
      ∙ lived-append 0 e [] (unmarked es) (unmarked b.rest) (said_by e es h)
      ∙ append-nil (lived_from 0 e (unmarked es))

  -- one event more
  pub lives_more : (t : ℕ) (s : Said) (e : List Told) (x : Event) (es : List Event) → map (λ y. y.said) es ≡ without_offs e
      → lived_from 0 (e ++ item t s ∷ []) (unmarked (es ++ x ∷ [])) ≡ lived_from 0 e (unmarked es) ++ lived_from (offs_in 0 e) (item t s ∷ []) (unmarked (x ∷ []))
  lives_more t s e x es h =
      ap (lived_from 0 (e ++ item t s ∷ [])) (unmarked-append es (x ∷ []))
      ∙ lived-append 0 e (item t s ∷ []) (unmarked es) (unmarked (x ∷ [])) (said_by e es h)

  module _ (nv : Option (List ℤ)) (q : List Told) (t : ℕ) (s : Said) (k : IsTelling s) where
    abbrev pub end : List Told
    end = item t s ∷ []

    pub added : erase (q ++ end) ≡ erase q ++ end
    added = erases.is_added q t s (tell_facts t s k).0

    pub said_more : without_offs (erase q ++ end) ≡ without_offs (erase q) ++ s ∷ []
    said_more = without_offs-append (erase q) end ∙ ap (λ l. without_offs (erase q) ++ l) (tell_facts t s k).1

    pub offs_same : offs_in 0 (erase q ++ end) ≡ offs_in 0 (erase q)
    offs_same = offs_in-more t s 0 (erase q) ∙ (tell_facts t s k).2 (offs_in 0 (erase q))

    pub samples_more : samples_in (erase q ++ end) ≡ samples_in (erase q) ++ samples_in end
    samples_more = samples_in-append (erase q) end

    pub samples_same : IsNoInput s → samples_in (erase q ++ end) ≡ samples_in (erase q)
    samples_same n = samples_more ∙ ap (λ l. samples_in (erase q) ++ l) (silent_facts t s n).0 ∙ append-nil (samples_in (erase q))

    pub table_same : IsNoInput s → offs_before 0 (erase q ++ end) ≡ offs_before 0 (erase q)
    table_same n = offs_before-more t s 0 (erase q) ∙ ap (λ l. offs_before 0 (erase q) ++ l) ((silent_facts t s n).1 (offs_in 0 (erase q))) ∙ append-nil (offs_before 0 (erase q))

    -- where it is honest, it says what the run says next
    pub said_back : IsHonestSoFar p regions nv (q ++ end) → IsPrefixOf (without_offs (erase q) ++ s ∷ []) (said_in (marked_run p regions (samples_in (erase q) ++ samples_in end)))
    said_back h =
        subst (λ l. IsPrefixOf (without_offs (erase q) ++ s ∷ []) (said_in (marked_run p regions l))) samples_more
        (subst (λ l. IsPrefixOf l (said_in (marked_run p regions (samples_in (erase q ++ end))))) said_more
        (subst (λ l. IsPrefixOf (without_offs l) (said_in (marked_run p regions (samples_in l)))) added h.said))

    module _ (v' : List ℤ) (es : List Event) (b : Begins es (marked_run p regions v').events) (is : samples_in (erase q ++ end) ≡ v')
        (tells : map (λ x. x.said) es ≡ without_offs (erase q ++ end)) where
      pub honest_more : HasNoOffInside false (erase q) → AreTimely p (lived_from 0 (erase q ++ end) (unmarked es)) → ((how : Ending) → s ≡ Ended how → IsWhole p regions (q ++ end) nv)
          → IsHonestSoFar p regions nv (q ++ end)
      honest_more outside timely whole = record {
        said = subst (λ l. IsPrefixOf (without_offs l) (said_in (marked_run p regions (samples_in l)))) (sym added)
            (subst (λ l. IsPrefixOf (without_offs (erase q ++ end)) (said_in (marked_run p regions l))) (sym is)
            (subst (λ l. IsPrefixOf l (said_in (marked_run p regions v'))) tells
            (map (λ x. x.said) b.rest, sym (map-append (λ x. x.said) es b.rest) ∙ ap (map (λ x. x.said)) (sym b.is))));
        outside = subst (HasNoOffInside false) (sym added) (outside_more t s false (erase q) outside ((tell_facts t s k).3 (is_inside false (erase q))));
        timely = subst (λ l. AreTimely p (lived_from 0 l (source_run p (samples_in l)).events)) (sym added)
            (subst (λ l. AreTimely p (lived_from 0 (erase q ++ end) (source_run p l).events)) (sym is)
            (subst (AreTimely p) (sym (lived_same v' (erase q ++ end) es b tells)) timely));
        whole = λ how x. whole how (ends_so t s q x.0 x.1 (Ended how) x.2);
      }

      pub timely_back : IsHonestSoFar p regions nv (q ++ end) → AreTimely p (lived_from 0 (erase q ++ end) (unmarked es))
      timely_back h =
          subst (AreTimely p) (lived_same v' (erase q ++ end) es b tells)
          (subst (λ l. AreTimely p (lived_from 0 (erase q ++ end) (source_run p l).events)) is
          (subst (λ l. AreTimely p (lived_from 0 l (source_run p (samples_in l)).events)) added h.timely))

    -- the run under way behind the item
    pub way_more : (v' : List ℤ) (table' : List ℕ) (past' : List Event) (fs' : List Frame) (o' : Outcome) (w : Way)
        → samples_in (erase q ++ end) ≡ v' → offs_before 0 (erase q ++ end) ≡ table' → Follows p regions v' table' (offs_in 0 (erase q)) past' fs' o' w.frames w.out
        → inside_after (is_inside false (erase q)) s ≡ w.inside
        → (w.over ≡ false → IsGoing p (erase q ++ end) past' w.sets)
        → (w.over ≡ true → (x : List ℤ) → said_in (marked_run p regions (v' ++ x)) ≡ without_offs (erase q ++ end))
        → (w.over ≡ true → step p regions union of_samples fs' o' ≡ Over)
        → AreCounted p w.sets w.frames (store_in w.out).blocks
        → IsWay p regions (erase (q ++ end)) w
    way_more v' table' past' fs' o' w vs ts f i g over stands counted =
        subst (λ l. IsWay p regions l w) (sym added) (record {
          past = past';
          fs = fs';
          o = o';
          follows = subst (λ l. Follows p regions l (offs_before 0 (erase q ++ end)) (offs_in 0 (erase q ++ end)) past' fs' o' w.frames w.out) (sym vs)
              (subst (λ l. Follows p regions v' l (offs_in 0 (erase q ++ end)) past' fs' o' w.frames w.out) (sym ts)
              (subst (λ n. Follows p regions v' table' n past' fs' o' w.frames w.out) (sym offs_same) f));
          inside = is_inside-more t s false (erase q) ∙ i;
          going = g;
          whole = λ b x. subst (λ l. said_in (marked_run p regions (l ++ x)) ≡ without_offs (erase q ++ end)) (sym vs) (over b x);
          stands = stands;
          counted = counted;
        })

    -- what it tells is numbered and seen
    pub going_more : (table' : List ℕ) (past' : List Event) (sets : List Instance) (all : List Lived) → said_so_far past' ≡ without_offs (erase q ++ end) → offs_before 0 (erase q ++ end) ≡ table'
        → lives_of (erase q ++ end) past' ≡ all → AreNumbered all table' → IsSeen p all table' sets → IsGoing p (erase q ++ end) past' sets
    going_more table' past' sets all tells ts as' n g = record {
      said = tells;
      numbered = subst (λ l. AreNumbered l (offs_before 0 (erase q ++ end))) (sym as') (subst (AreNumbered all) (sym ts) n);
      seen = subst (λ l. IsSeen p l (offs_before 0 (erase q ++ end)) sets) (sym as') (subst (λ l. IsSeen p all l sets) (sym ts) g);
    }
