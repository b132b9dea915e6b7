-- Erasing, as a report grows.
use Rattle.std.proofs.Common.{◌≡◌, ℕ, List, [], ◌∷◌, ◌++◌, Option, Some, None, refl, ap, ◌∙◌, Bool, true, false, eq-eqb, eqb-true, append-nil}
use Rattle.std.specs.Prelude.{◌≢◌, ◌==◌, if◌then◌else◌}
use Rattle.oc_tree.specs.Said.{Told}
use Rattle.oc_tree.specs.declared.said.Said.{Said}
use Rattle.oc_tree.specs.declared.said.Said.TheVariants.{Sensed, Showed, Entered, Committed, Aborted, Off, Dark, Ended}
use Rattle.oc_steps.specs.Erasing.{item, newer, last_mark, IsUnmarked, AreUnmarked, Erases}
use Rattle.oc_items.specs.Erase.{mark_or, next_mark, begins_stretch, goes_on, erase_from, erase}
use Rattle.oc_items.proofs.Joined.{NoAbort, HasAhead, begins-abort, ahead_on, erase-append}

-- marks

unmarked_mark : (s : Said) (m : Option Said) → IsUnmarked s → mark_or s m ≡ m
unmarked_mark (Entered a) m p = absurd p
unmarked_mark (Committed a) m p = absurd p
unmarked_mark (Aborted a) m p = absurd p
unmarked_mark said m p = refl

unmarked_goes_on : (s : Said) → IsUnmarked s → goes_on s ≡ true
unmarked_goes_on (Entered a) p = absurd p
unmarked_goes_on (Committed a) p = absurd p
unmarked_goes_on (Aborted a) p = absurd p
unmarked_goes_on said p = refl

mark_after : (body ys : List Told) → AreUnmarked body → next_mark (body ++ ys) ≡ next_mark ys
mark_after [] ys p = refl
mark_after (i ∷ body) ys p = unmarked_mark i.said (next_mark (body ++ ys)) p.0 ∙ mark_after body ys p.1

-- a later mark hides an earlier one
hides : (m : Option Said) (is : List Told) (e : Said) → last_mark None is ≡ Some e → last_mark m is ≡ Some e
hides m [] e h = absurd (cc (h))
hides m (i ∷ is) e h = by i.said (λ k. hides m is e k) h
  where
    by : (s : Said) → (last_mark None is ≡ Some e → last_mark m is ≡ Some e) → last_mark (newer s None) is ≡ Some e → last_mark (newer s m) is ≡ Some e
    by (Entered a) ih h = h
    by (Committed a) ih h = h
    by (Aborted a) ih h = h
    by said ih h = ih h

module _ (t r : ℕ) where
  skips_all : (body : List Told) → AreUnmarked body → erase_from true (body ++ item t (Aborted r) ∷ []) ≡ []
  skips_all [] p = refl
  skips_all (i ∷ body) p = ap (λ b. erase_from b (body ++ item t (Aborted r) ∷ [])) (unmarked_goes_on i.said p.0) ∙ skips_all body p.1

  attempt_gone : (u : ℕ) (body : List Told) → AreUnmarked body → erase (item u (Entered r) ∷ (body ++ item t (Aborted r) ∷ [])) ≡ []
  attempt_gone u body p =
      let after = body ++ item t (Aborted r) ∷ [] in
      ap (λ m. if begins_stretch (Entered r) m then erase_from true after else item u (Entered r) ∷ erase_from false after) (mark_after body (item t (Aborted r) ∷ []) p)
      ∙ ap (λ b. if b then erase_from true after else item u (Entered r) ∷ erase_from false after) (eq-eqb r r refl)
      ∙ skips_all body p

  abbrev end : List Told
  end = item t (Aborted r) ∷ []

  not_same : (k : ℕ) (b : Bool) → (k == r) ≡ b → (Some (Entered k) ≢ Some (Entered r)) → b ≡ false
  not_same k true e h = absurd (h (ap (λ n. Some (Entered n)) (eqb-true k r e)))
  not_same k false e h = refl

  entered_same : (k : ℕ) (is : List Told) → last_mark (Some (Entered k)) is ≢ Some (Entered r) → begins_stretch (Entered k) (next_mark (is ++ end)) ≡ begins_stretch (Entered k) (next_mark is)
  entered_same k [] h = not_same k (k == r) refl h
  entered_same k (i ∷ is) h = by i.said h (entered_same k is)
    where
      by : (s : Said) → last_mark (newer s (Some (Entered k))) is ≢ Some (Entered r)
          → (last_mark (Some (Entered k)) is ≢ Some (Entered r) → begins_stretch (Entered k) (next_mark (is ++ end)) ≡ begins_stretch (Entered k) (next_mark is))
          → begins_stretch (Entered k) (mark_or s (next_mark (is ++ end))) ≡ begins_stretch (Entered k) (mark_or s (next_mark is))
      by (Entered a) h ih = refl
      by (Committed a) h ih = refl
      by (Aborted a) h ih = refl
      by said h ih = ih h

  begins_same : (s : Said) (is : List Told) → last_mark (newer s None) is ≢ Some (Entered r) → begins_stretch s (next_mark (is ++ end)) ≡ begins_stretch s (next_mark is)
  begins_same (Entered k) is h = entered_same k is h
  begins_same said is h = refl

  choice : (c : Bool) (i : Told) (is : List Told) → begins_stretch i.said (next_mark is) ≡ c → (HasAhead true is → erase_from true (is ++ end) ≡ erase_from true is ++ end)
      → erase_from false (is ++ end) ≡ erase_from false is ++ end → (if c then erase_from true (is ++ end) else i ∷ erase_from false (is ++ end))
      ≡ (if c then erase_from true is else i ∷ erase_from false is) ++ end
  choice true i is e ht hf = ht (begins-abort i.said (next_mark is) e)
  choice false i is e ht hf = ap (λ l. i ∷ l) hf

  left_from : (b : Bool) (q : List Told) → HasAhead b q → last_mark None q ≢ Some (Entered r) → erase_from b (q ++ end) ≡ erase_from b q ++ end
  left_from true [] a h = absurd a
  left_from false [] a h = refl
  left_from true (i ∷ is) a h = left_from (goes_on i.said) is (ahead_on i.said is a) (λ e. h (hides (newer i.said None) is (Entered r) e))
  left_from false (i ∷ is) a h =
      ap (λ c. if c then erase_from true (is ++ end) else i ∷ erase_from false (is ++ end)) (begins_same i.said is h)
      ∙ choice (begins_stretch i.said (next_mark is)) i is refl
      (λ ahead. left_from true is ahead (λ e. h (hides (newer i.said None) is (Entered r) e)))
      (left_from false is tt (λ e. h (hides (newer i.said None) is (Entered r) e)))

one_added : (t : ℕ) (s : Said) → Rattle.oc_steps.specs.Erasing.IsNoAbort s → (NoAbort (mark_or s None)) × (erase (item t s ∷ []) ≡ item t s ∷ [])
one_added t (Aborted a) h = absurd h
one_added t said h = (tt, refl)

pub erases : Erases
erases = record {
  left_over = λ q t r h. left_from t r false q tt h;
  leaves_nothing = λ q body u t r p.
      erase-append q (item u (Entered r) ∷ (body ++ item t (Aborted r) ∷ [])) tt ∙ ap (λ l. erase q ++ l) (attempt_gone t r u body p) ∙ append-nil (erase q);
  is_added = λ q t s h.
      let one = one_added t s h in
      erase-append q (item t s ∷ []) one.0 ∙ ap (λ l. erase q ++ l) one.1;
}
