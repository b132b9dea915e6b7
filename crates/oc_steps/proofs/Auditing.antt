-- The audit of a report, item by item.
use Rattle.std.proofs.Common.{◌≡◌, ℕ, suc, ℤ, List, [], ◌∷◌, ◌++◌, length, map, Option, Some, None, refl, sym, ap, ◌∙◌, subst, inl, inr, ⊎_elim, append-nil, append_assoc, arith}
use Rattle.std.specs.Prelude.{◌⊎◌, codes}
use Rattle.std.proofs.lemmas.Option.{none-some}
use Rattle.oc_tree.specs.Form.{Numbered}
use Rattle.oc_tree.specs.Tree.{TProgram}
use Rattle.oc_tree.specs.declared.tree.NvDecl.{NvDecl}
use Rattle.oc_tree.specs.Marked.{TRegion}
use Rattle.oc_tree.specs.Said.{Told}
use Rattle.oc_tree.specs.declared.said.Ending.{Ending}
use Rattle.oc_tree.specs.declared.said.Said.{Said}
use Rattle.oc_tree.specs.declared.said.Said.TheVariants.{Sensed, Showed, Entered, Committed, Aborted, Off, Dark, Ended}
use Rattle.oc_tree.specs.Samples.{union}
use Rattle.oc_meaning.specs.Exec.{array_of}
use Rattle.oc_meaning.specs.Run.{first_values, first_store, marked_run, said_in}
use Rattle.oc_items.specs.Reports.{EndsWith}
use Rattle.oc_steps.specs.Steps.{Step, Goes, Asks, Over, step_passed, of_samples}
use Rattle.oc_steps.specs.Ages.{join_ages, aged_held, aged_step, of_ages}
use Rattle.oc_steps.specs.Heard.{store_in}
use Rattle.oc_steps.specs.Starting.{Starts}
use Rattle.oc_steps.specs.Little.{Little}
use Rattle.oc_honest.specs.Honest.{TReport, IsHonestSoFar}
use Rattle.oc_steps.specs.Erasing.{item}
use Rattle.oc_steps.specs.Freshness.{AreNumbered}
use Rattle.oc_steps.specs.Fold.{Watch, start}
use Rattle.oc_steps.specs.Watching.{IsSeen, IsWay, IsWatch, IsAnswer, AllHonest}
use Rattle.oc_steps.specs.Auditing.{IsHeard, Finds, all, breaks, goes, first_watch, Judges, HearsRight, FindsRight}
use Rattle.oc_steps.proofs.Aging.{passed_to_aged}
use Rattle.oc_steps.proofs.Little.{passed_little}
use Rattle.oc_steps.proofs.Homes.{body_noted}
use Rattle.oc_steps.proofs.Counting.{Counts, passed_counts}
use Rattle.oc_steps.proofs.Onward.{taken_of, is_cleared}
use Rattle.oc_steps.proofs.Starting.{starts_right}
use Rattle.oc_steps.proofs.Resting.{rests_right}
use Rattle.oc_steps.proofs.Aborting.{aborts_right}
use Rattle.oc_steps.proofs.Answering.{tells_right}

-- ---- one item

pub hears_right : HearsRight
hears_right p regions nv q i w a numbered h k e = by i.tick i.said e
  where
    so : IsHonestSoFar p regions nv q
    so = h q [] (append-nil q)

    by : (t : ℕ) (s : Said) → IsHeard p regions nv w s a → IsAnswer p regions nv (q ++ item t s ∷ []) a
    by t (Off m) e = subst (IsAnswer p regions nv (q ++ item t (Off m) ∷ [])) (sym e) (rests_right.offs p regions nv q t m w so k)
    by t Dark e = subst (IsAnswer p regions nv (q ++ item t Dark ∷ [])) (sym e) (rests_right.dark p regions nv q t w so k)
    by t (Aborted r) e = subst (IsAnswer p regions nv (q ++ item t (Aborted r) ∷ [])) (sym e) (aborts_right p regions nv q t r w h k)
    by t said e = subst (IsAnswer p regions nv (q ++ item t said ∷ [])) (sym e.2) (tells_right p regions nv q t said w e.0 numbered so k tt e.1)

-- ---- before the first item

first_aged : (before : ℕ → ℕ) (ds : List NvDecl) → map (aged_held before) (first_values ds) ≡ first_values ds
first_aged before [] = refl
first_aged before (d ∷ ds) = ap (λ l. array_of d.initial d.words ∷ l) (first_aged before ds)

module _ (p : TProgram) (regions : List TRegion) (numbered : Numbered p) where
  full : Step
  full = step_passed p regions union of_samples (suc (length p.functions)) (codes "main") [] [] (first_store p [])

  no_events : AreNumbered [] []
  no_events = record { each = λ a j h i. absurd h; has = λ j l. absurd (omega (arith, l)) }

  nothing_seen : IsSeen p [] [] []
  nothing_seen = record {
    uses = λ u j h us s. absurd h;
    tags = λ u n k h d g. absurd h;
    each = λ k i x f m. absurd (cc (f));
    one = λ k i f. absurd (cc (f));
  }

  from : (b a : Step) → Starts p regions b → Little 0 b → ((before : ℕ → ℕ) → a ≡ aged_step before 0 b) → Counts p [] a → IsWay p regions [] (start p regions [] a)
  from (Goes fs o) (Goes gs u) st l k c = record {
    past = [];
    fs = fs;
    o = o;
    follows = record {
      under = st;
      frames_age = λ before a. cc (k before);
      out_age = λ before a. cc (k before);
      count = subst (λ x. (store_in x).taken ≡ 0) (is_cleared o st.none) (taken_of 0 o l);
    };
    inside = refl;
    going = λ d. record { said = refl; numbered = no_events; seen = nothing_seen };
    whole = λ d. absurd (cc (d));
    stands = λ d. absurd (cc (d));
    counted = record { noted = c.0; last = λ s i f. absurd (none-some i f) };
  }
  from (Goes fs o) (Asks s gs τ) st l k c = absurd (cc (k (λ j. j)))
  from (Goes fs o) Over st l k c = absurd (cc (k (λ j. j)))
  from (Asks s fs σ) a st l k c = absurd st
  from Over a st l k c = absurd st

  watches_first : IsWatch p regions [] (first_watch p regions)
  watches_first = record {
    now = from (step_passed p regions union of_samples (suc (length p.functions)) (codes "main") [] [] (first_store p []))
        (step_passed p regions join_ages of_ages (suc (length p.functions)) (codes "main") [] [] (first_store p [])) (starts_right p regions)
        (passed_little 0 p regions (suc (length p.functions)) (codes "main") [] [] (first_store p []) (refl, refl))
        (λ before.
        ap (λ l. step_passed p regions join_ages of_ages (suc (length p.functions)) (codes "main") [] [] (record (first_store p []) { nv = l })) (sym (first_aged before p.nv))
        ∙ passed_to_aged before 0 p regions (suc (length p.functions)) (codes "main") [] [] (first_store p []))
        (passed_counts p [] join_ages regions (body_noted p numbered) (suc (length p.functions)) (codes "main") [] [] (first_store p []) tt (refl, refl));
    saved = λ r e. absurd (cc (e));
  }

  -- ---- a report

  -- nothing is honest
  none_honest : (nv : Option (List ℤ)) → IsHonestSoFar p regions nv []
  none_honest nv = record {
    said = (said_in (marked_run p regions []), refl);
    outside = tt;
    timely = record { fresh = λ a u j h k i us s. absurd h; consistent = λ a b t u j k ha hb ht hu i i' g s s'. absurd ha };
    whole = λ how x. absurd (not_ended how x);
  }
    where
      not_ended : (how : Ending) → EndsWith [] (Ended how) → ⊥
      not_ended how x = by x.0 x.2
        where
          by : (before : List Told) → [] ≡ before ++ record { tick = x.1; said = Ended how } ∷ [] → ⊥
          by [] e = absurd (cc (e))
          by (y ∷ before) e = absurd (cc (e))

  empty_honest : (nv : Option (List ℤ)) → AllHonest p regions nv []
  empty_honest nv [] rest e = none_honest nv
  empty_honest nv (x ∷ front) rest e = absurd (cc (e))

  -- a front part of one item more is the whole or a front part of what was there
  front_of : (front rest q : List Told) (i : Told) → front ++ rest ≡ q ++ i ∷ [] → (front ≡ q ++ i ∷ []) ⊎ ((more : List Told) × (front ++ more ≡ q))
  front_of [] rest q i e = inr (q, refl)
  front_of (x ∷ []) rest [] i e = let xi : x ≡ i = cc (e) in inl (ap (λ y. y ∷ []) xi)
  front_of (x ∷ y ∷ front) rest [] i e = absurd (cc (e))
  front_of (x ∷ front) rest (y ∷ q) i e =
      let xy : x ≡ y = cc (e) in
      ⊎_elim (λ h. inl (ap (λ z. z ∷ front) xy ∙ ap (λ l. y ∷ l) h)) (λ h. inr (h.0, ap (λ z. z ∷ (front ++ h.0)) xy ∙ ap (λ l. y ∷ l) h.1)) (front_of front rest q i (cc (e)))

  honest_all : (nv : Option (List ℤ)) (q : List Told) (i : Told) → AllHonest p regions nv q → IsHonestSoFar p regions nv (q ++ i ∷ []) → AllHonest p regions nv (q ++ i ∷ [])
  honest_all nv q i h k front rest e = ⊎_elim (λ d. subst (IsHonestSoFar p regions nv) (sym d) k) (λ d. h front d.0 d.1) (front_of front rest q i e)

  length-more : (q : List Told) (i : Told) → length (q ++ i ∷ []) ≡ suc (length q)
  length-more [] i = refl
  length-more (x ∷ q) i = ap suc (length-more q i)

  module _ (r : TReport) where
    finds_from : {w : Watch} {is : List Told} {n : ℕ} {v : Option ℕ} → Finds p regions r.nv w is n v → (q : List Told) → q ++ is ≡ r.items → n ≡ suc (length q)
        → AllHonest p regions r.nv q → IsWatch p regions q w
        → Judges p regions r v
    finds_from all q s m h k = λ front rest e. h front rest (e ∙ sym s ∙ append-nil q)
    finds_from (breaks {w = w} {i = i} {is = is} {n = n} e) q s m h k = record {
      before = q;
      item = i;
      rest = is;
      split = s;
      number = m;
      honest = h;
      broken = hears_right p regions r.nv q i w None numbered h k e;
    }
    finds_from (goes {w = w} {now = now} {i = i} {is = is} {n = n} {v = v} e f) q s m h k =
        let a = hears_right p regions r.nv q i w (Some now) numbered h k e in
        finds_from f (q ++ i ∷ []) (append_assoc q (i ∷ []) is ∙ s) (ap suc m ∙ ap suc (sym (length-more q i))) (honest_all r.nv q i h a.0) a.1

pub finds_right : FindsRight
finds_right p regions r v numbered f = finds_from p regions numbered r f [] refl refl (empty_honest p regions numbered r.nv) (watches_first p regions numbered)
