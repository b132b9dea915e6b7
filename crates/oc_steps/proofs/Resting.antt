-- The answers to `off` and `dark`.
use Rattle.std.proofs.Common.{◌≡◌, ℕ, suc, ℤ, Bool, true, false, List, [], ◌∷◌, ◌++◌, length, Option, Some, None, refl, sym, ap, ◌∙◌, subst, append-nil}
use Rattle.std.specs.Prelude.{not, if◌then◌else◌}
use Rattle.oc_tree.specs.Tree.{TProgram}
use Rattle.oc_tree.specs.Marked.{TRegion}
use Rattle.oc_tree.specs.Said.{Told}
use Rattle.oc_tree.specs.declared.said.Ending.{Ending}
use Rattle.oc_tree.specs.declared.said.Said.{Said}
use Rattle.oc_tree.specs.declared.said.Said.TheVariants.{Sensed, Showed, Entered, Committed, Aborted, Off, Dark, Ended}
use Rattle.oc_meaning.specs.Store.{Event}
use Rattle.oc_meaning.specs.Exec.{Outcome, Went, Returned, Stopped}
use Rattle.oc_meaning.specs.Run.{marked_run, source_run, said_in, in_order}
use Rattle.oc_items.specs.Erase.{erase, without_offs, without_marks, samples_of, inside_after, IsOutside, MayStand, HasNoOffInside}
use Rattle.oc_steps.specs.Ages.{aged_outcome}
use Rattle.oc_steps.specs.AgesTell.{Agrees}
use Rattle.oc_steps.specs.Erasing.{item, IsNoAbort}
use Rattle.oc_steps.specs.Counting.{AreCounted}
use Rattle.oc_steps.specs.Heard.{Under, store_in}
use Rattle.oc_steps.specs.Freshness.{AreNumbered}
use Rattle.oc_meaning.specs.Unmarked.{unmarked}
use Rattle.oc_items.specs.Reports.{IsPrefixOf}
use Rattle.oc_items.proofs.Parting.{without_offs-append}
use Rattle.oc_honest.specs.Honest.{IsHonestSoFar}
use Rattle.oc_honest.specs.Timely.{lives, lived_from, AreTimely}
use Rattle.oc_steps.specs.Fold.{Way, Watch, one_more}
use Rattle.oc_steps.specs.Watching.{samples_in, off_more, offs_in, with_input, offs_before, is_inside, lives_of, IsSeen, IsGoing, IsWay, IsWatch, IsAnswer}
use Rattle.oc_steps.specs.Resting.{RestsRight}
use Rattle.oc_steps.proofs.Erasing.{erases}
use Rattle.oc_steps.proofs.Adding.{offs_in-more, offs_before-more, is_inside-more, outside_more, may_stand, saved_more, ends_so}

-- an item that tells no event and is no mark
abbrev IsQuiet : Said → Type 0
IsQuiet (Off m) = Unit {0}
IsQuiet Dark = Unit {0}
IsQuiet s = ⊥

quiet_adds : (s : Said) → IsQuiet s → IsNoAbort s × ((how : Ending) → s ≡ Ended how → ⊥)
quiet_adds (Off m) k = (tt, λ how e. absurd (cc (e)))
quiet_adds Dark k = (tt, λ how e. absurd (cc (e)))
quiet_adds said k = absurd k

quiet_says : (t : ℕ) (s : Said) → IsQuiet s → (without_offs (item t s ∷ []) ≡ []) × ((n : ℕ) → with_input s n [] ≡ []) × ((b : Bool) → inside_after b s ≡ b)
quiet_says t (Off m) k = (refl, λ n. refl, λ b. refl)
quiet_says t Dark k = (refl, λ n. refl, λ b. refl)
quiet_says t said k = absurd k

module _ (t : ℕ) (s : Said) (k : IsQuiet s) where
  abbrev end : List Told
  end = item t s ∷ []

  added : (q : List Told) → erase (q ++ end) ≡ erase q ++ end
  added q = erases.is_added q t s (quiet_adds s k).0

  same_said : (e : List Told) → without_offs (e ++ end) ≡ without_offs e
  same_said e = without_offs-append e end ∙ ap (λ l. without_offs e ++ l) (quiet_says t s k).0 ∙ append-nil (without_offs e)

  same_before : (e : List Told) → offs_before 0 (e ++ end) ≡ offs_before 0 e
  same_before e = offs_before-more t s 0 e ∙ ap (λ l. offs_before 0 e ++ l) ((quiet_says t s k).1 (offs_in 0 e)) ∙ append-nil (offs_before 0 e)

  same_inside : (e : List Told) → is_inside false (e ++ end) ≡ is_inside false e
  same_inside e = is_inside-more t s false e ∙ (quiet_says t s k).2 (is_inside false e)

  same_lived : (n : ℕ) (e : List Told) (es : List Event) → lived_from n (e ++ end) es ≡ lived_from n e es
  same_lived n [] es = by s k
    where
      by : (s : Said) → IsQuiet s → lives s n es (λ m fs. []) ≡ []
      by (Off m) k = refl
      by Dark k = refl
      by said k = absurd k
  same_lived n (i ∷ e) es = by i.said es (λ m fs. same_lived m e fs)
    where
      by : (x : Said) (es : List Event) → ((m : ℕ) (fs : List Event) → lived_from m (e ++ end) fs ≡ lived_from m e fs) → lives x n es (λ m fs. lived_from m (e ++ end) fs)
          ≡ lives x n es (λ m fs. lived_from m e fs)
      by (Off m) es ih = ih (suc n) es
      by Dark es ih = ih n es
      by (Entered r) es ih = ih n es
      by (Committed r) es ih = ih n es
      by (Sensed a b) (x ∷ es) ih = ap (λ l. record { offs = n; event = x } ∷ l) (ih n es)
      by (Showed a) (x ∷ es) ih = ap (λ l. record { offs = n; event = x } ∷ l) (ih n es)
      by (Aborted a) (x ∷ es) ih = ap (λ l. record { offs = n; event = x } ∷ l) (ih n es)
      by (Ended a) (x ∷ es) ih = ap (λ l. record { offs = n; event = x } ∷ l) (ih n es)
      by said [] ih = refl

  module _ (p : TProgram) (regions : List TRegion) (nv : Option (List ℤ)) (q : List Told) where
    e' : erase (q ++ end) ≡ erase q ++ end
    e' = added q

    honest : IsHonestSoFar p regions nv q → MayStand (is_inside false (erase q)) s → IsHonestSoFar p regions nv (q ++ end)
    honest h m = record {
      said = subst (λ l. IsPrefixOf l (said_in (marked_run p regions (samples_of (without_marks l))))) (sym (ap without_offs e' ∙ same_said (erase q))) h.said;
      outside = subst (HasNoOffInside false) (sym e') (outside_more t s false (erase q) h.outside m);
      timely = subst (λ l. AreTimely p (lived_from 0 l (source_run p (samples_in l)).events)) (sym e')
          (subst (λ l. AreTimely p (lived_from 0 (erase q ++ end) (source_run p (samples_of (without_marks l))).events)) (sym (same_said (erase q)))
          (subst (AreTimely p) (sym (same_lived 0 (erase q) (source_run p (samples_in (erase q))).events)) h.timely));
      whole = λ how x. absurd ((quiet_adds s k).1 how (ends_so t s q x.0 x.1 (Ended how) x.2));
    }

    way : (w : Way) (out' : Outcome) → (store_in out').blocks ≡ (store_in w.out).blocks → ((before : ℕ → ℕ) (o : Outcome) → aged_outcome before (offs_in 0 (erase q)) o ≡ w.out
        → aged_outcome before (off_more s (offs_in 0 (erase q))) o ≡ out') → IsWay p regions (erase q) w → IsWay p regions (erase q ++ end) (record w { out = out' })
    way w out' b f h = record {
      past = h.past;
      fs = h.fs;
      o = h.o;
      follows = record {
        under = subst (λ l. Under p regions (samples_of (without_marks l)) h.past h.fs h.o) (sym (same_said (erase q))) h.follows.under;
        frames_age = λ before a. h.follows.frames_age before (subst (λ l. Agrees l before) (same_before (erase q)) a);
        out_age = λ before a. ap (λ n. aged_outcome before n h.o) (offs_in-more t s 0 (erase q)) ∙ f before h.o (h.follows.out_age before (subst (λ l. Agrees l before) (same_before (erase q)) a));
        count = h.follows.count ∙ ap length (sym (same_before (erase q)));
      };
      inside = same_inside (erase q) ∙ h.inside;
      going = λ o. going (h.going o);
      whole = λ o v. subst (λ l. said_in (marked_run p regions (samples_of (without_marks l) ++ v)) ≡ l) (sym (same_said (erase q))) (h.whole o v);
      stands = h.stands;
      counted = subst (AreCounted p w.sets w.frames) (sym b) h.counted;
    }
      where
        same : lived_from 0 (erase q ++ end) (unmarked (in_order h.past)) ≡ lives_of (erase q) h.past
        same = same_lived 0 (erase q) (unmarked (in_order h.past))

        going : IsGoing p (erase q) h.past w.sets → IsGoing p (erase q ++ end) h.past w.sets
        going g = record {
          said = g.said ∙ sym (same_said (erase q));
          numbered = subst (λ l. AreNumbered l (offs_before 0 (erase q ++ end))) (sym same) (subst (AreNumbered (lives_of (erase q) h.past)) (sym (same_before (erase q))) g.numbered);
          seen = subst (λ l. IsSeen p l (offs_before 0 (erase q ++ end)) w.sets) (sym same) (subst (λ l. IsSeen p (lives_of (erase q) h.past) l w.sets) (sym (same_before (erase q))) g.seen);
        }

same_blocks : (o : Outcome) → (store_in (one_more o)).blocks ≡ (store_in o).blocks
same_blocks (Went σ) = refl
same_blocks (Returned v σ) = refl
same_blocks (Stopped s σ) = refl

as_many : (before : ℕ → ℕ) (n : ℕ) (o : Outcome) → aged_outcome before (suc n) o ≡ one_more (aged_outcome before n o)
as_many before n (Went σ) = refl
as_many before n (Returned v σ) = refl
as_many before n (Stopped s σ) = refl

module _ (p : TProgram) (regions : List TRegion) (nv : Option (List ℤ)) (q : List Told) (t : ℕ) where
  dark : (w : Watch) → IsHonestSoFar p regions nv q → IsWatch p regions q w → IsAnswer p regions nv (q ++ item t Dark ∷ []) (Some w)
  dark w h k = (
    honest t Dark tt p regions nv q h tt,
    record {
      now = subst (λ l. IsWay p regions l w.now) (sym (added t Dark tt q)) (way t Dark tt p regions nv q w.now w.now.out refl (λ before o e. e) k.now);
      saved = saved_more t Dark p regions q tt w.saved k.saved;
    },
  )

  by_inside : (m : ℕ) (w : Watch) (b : Bool) → w.now.inside ≡ b → IsHonestSoFar p regions nv q → IsWatch p regions q w
      → IsAnswer p regions nv (q ++ item t (Off m) ∷ []) (if not b then Some (record w { now = record w.now { out = one_more w.now.out } }) else None)
  by_inside m w false g h k =
      let i : is_inside false (erase q) ≡ false = k.now.inside ∙ g in (
        honest t (Off m) tt p regions nv q h (subst IsOutside (sym i) tt),
        record {
          now = subst (λ l. IsWay p regions l (record w.now { out = one_more w.now.out })) (sym (added t (Off m) tt q))
              (way t (Off m) tt p regions nv q w.now (one_more w.now.out) (same_blocks w.now.out) (λ before o e. as_many before (offs_in 0 (erase q)) o ∙ ap one_more e) k.now);
          saved = saved_more t (Off m) p regions q tt w.saved k.saved;
        },
      )
  by_inside m w true g h k = λ broken.
      let i : is_inside false (erase q) ≡ true = k.now.inside ∙ g in
      subst IsOutside i (may_stand t (Off m) false (erase q) (subst (HasNoOffInside false) (added t (Off m) tt q) broken.outside))

pub rests_right : RestsRight
rests_right = record {
  dark = λ p regions nv q t w h k. dark p regions nv q t w h k;
  offs = λ p regions nv q t m w h k. by_inside p regions nv q t m w w.now.inside refl h k;
}
