-- What one item more does to what a report tells.
use Rattle.std.proofs.Common.{◌≡◌, ℕ, suc, Bool, List, [], ◌∷◌, ◌++◌, map, Option, Some, None, refl, sym, ap, ◌∙◌, append_assoc}
use Rattle.oc_tree.specs.Said.{Told}
use Rattle.oc_tree.specs.declared.said.Said.{Said}
use Rattle.oc_tree.specs.declared.said.Said.TheVariants.{Sensed, Showed, Entered, Committed, Aborted, Off, Dark, Ended}
use Rattle.oc_meaning.specs.Store.{Event}
use Rattle.oc_items.specs.Erase.{without_off, without_offs, without_marks, samples_of, inside_after, MayStand, HasNoOffInside}
use Rattle.oc_items.proofs.Parting.{without_offs-append, without_marks-append, samples_of-append}
use Rattle.oc_honest.specs.Timely.{lives, lived_from}
use Rattle.oc_steps.specs.Erasing.{item, newer, last_mark, AreUnmarked, IsUnmarked}
use Rattle.oc_steps.specs.Watching.{samples_in, off_more, offs_in, with_input, offs_before, is_inside, IsSaved}
use Rattle.oc_steps.specs.Fold.{Way}
use Rattle.oc_tree.specs.Tree.{TProgram}
use Rattle.oc_tree.specs.Marked.{TRegion}

-- ---- two lists of items

pub samples_in-append : (xs ys : List Told) → samples_in (xs ++ ys) ≡ samples_in xs ++ samples_in ys
samples_in-append xs ys =
    ap (λ l. samples_of (without_marks l)) (without_offs-append xs ys) ∙ ap samples_of (without_marks-append (without_offs xs) (without_offs ys))
    ∙ samples_of-append (without_marks (without_offs xs)) (without_marks (without_offs ys))

-- items that these events tell, and others behind them
pub lived-append : (n : ℕ) (e f : List Told) (es rest : List Event) → map (λ x. x.said) es ≡ without_marks (without_offs e)
    → lived_from n (e ++ f) (es ++ rest) ≡ lived_from n e es ++ lived_from (offs_in n e) f rest
lived-append n [] f [] rest h = refl
lived-append n [] f (x ∷ es) rest h = absurd (cc (h))
lived-append n (i ∷ e) f es rest h = by i.said es h (λ m fs k. lived-append m e f fs rest k)
  where
    by : (s : Said) (es : List Event) → map (λ x. x.said) es ≡ without_marks (without_off s (without_offs e))
        → ((m : ℕ) (fs : List Event) → map (λ x. x.said) fs ≡ without_marks (without_offs e) → lived_from m (e ++ f) (fs ++ rest) ≡ lived_from m e fs ++ lived_from (offs_in m e) f rest)
        → lives s n (es ++ rest) (λ m fs. lived_from m (e ++ f) fs) ≡ lives s n es (λ m fs. lived_from m e fs) ++ lived_from (offs_in (off_more s n) e) f rest
    by (Off m) es h ih = ih (suc n) es h
    by Dark es h ih = ih n es h
    by (Entered r) es h ih = ih n es h
    by (Committed r) es h ih = ih n es h
    by (Sensed a b) (x ∷ es) h ih = ap (λ l. record { offs = n; event = x } ∷ l) (ih n es (cc (h)))
    by (Showed a) (x ∷ es) h ih = ap (λ l. record { offs = n; event = x } ∷ l) (ih n es (cc (h)))
    by (Aborted a) (x ∷ es) h ih = ap (λ l. record { offs = n; event = x } ∷ l) (ih n es (cc (h)))
    by (Ended a) (x ∷ es) h ih = ap (λ l. record { offs = n; event = x } ∷ l) (ih n es (cc (h)))
    by said [] h ih = absurd (cc (h))

-- ---- one item more

newer_unmarked : (s : Said) → IsUnmarked s → (m : Option Said) → newer s m ≡ m
newer_unmarked (Entered a) h m = absurd h
newer_unmarked (Committed a) h m = absurd h
newer_unmarked (Aborted a) h m = absurd h
newer_unmarked said h m = refl

module _ (t : ℕ) (s : Said) where
  abbrev pub end : List Told
  end = item t s ∷ []

  pub offs_in-more : (n : ℕ) (e : List Told) → offs_in n (e ++ end) ≡ off_more s (offs_in n e)
  offs_in-more n [] = refl
  offs_in-more n (i ∷ e) = offs_in-more (off_more i.said n) e

  pub offs_before-more : (n : ℕ) (e : List Told) → offs_before n (e ++ end) ≡ offs_before n e ++ with_input s (offs_in n e) []
  offs_before-more n [] = refl
  offs_before-more n (i ∷ e) =
      ap (with_input i.said n) (offs_before-more (off_more i.said n) e) ∙ by i.said (offs_before (off_more i.said n) e) (with_input s (offs_in (off_more i.said n) e) [])
    where
      by : (x : Said) (a b : List ℕ) → with_input x n (a ++ b) ≡ with_input x n a ++ b
      by (Sensed k z) a b = refl
      by said a b = refl

  pub is_inside-more : (b : Bool) (e : List Told) → is_inside b (e ++ end) ≡ inside_after (is_inside b e) s
  is_inside-more b [] = refl
  is_inside-more b (i ∷ e) = is_inside-more (inside_after b i.said) e

  pub outside_more : (b : Bool) (e : List Told) → HasNoOffInside b e → MayStand (is_inside b e) s → HasNoOffInside b (e ++ end)
  outside_more b [] h m = (m, tt)
  outside_more b (i ∷ e) h m = (h.0, outside_more (inside_after b i.said) e h.1 m)

  pub may_stand : (b : Bool) (e : List Told) → HasNoOffInside b (e ++ end) → MayStand (is_inside b e) s
  may_stand b [] h = h.0
  may_stand b (i ∷ e) h = may_stand (inside_after b i.said) e h.1

  pub last_mark-more : (m : Option Said) (q : List Told) → last_mark m (q ++ end) ≡ newer s (last_mark m q)
  last_mark-more m [] = refl
  last_mark-more m (i ∷ q) = last_mark-more (newer i.said m) q

  unmarked-more : IsUnmarked s → (body : List Told) → AreUnmarked body → AreUnmarked (body ++ end)
  unmarked-more k [] u = (k, tt)
  unmarked-more k (i ∷ body) u = (u.0, unmarked-more k body u.1)

  -- no mark stands behind the last `enter`
  pub saved_more : (p : TProgram) (regions : List TRegion) (q : List Told) → IsUnmarked s → (o : Option (ℕ × Way)) → IsSaved p regions q o → IsSaved p regions (q ++ end) o
  saved_more p regions q u (Some x) h = (h.0, h.1 ++ end, h.2, ap (λ l. l ++ end) h.3 ∙ append_assoc h.0 (item h.2 (Entered x.0) ∷ h.1) end, unmarked-more u h.1 h.4, h.5)
  saved_more p regions q u None h = λ r l. h r (sym (last_mark-more None q ∙ newer_unmarked s u (last_mark None q)) ∙ l)

  -- what ends with this ends with nothing else
  pub ends_so : (q before : List Told) (u : ℕ) (x : Said) → q ++ end ≡ before ++ item u x ∷ [] → s ≡ x
  ends_so [] [] u x e = let y : item t s ≡ item u x = cc (e) in ap (λ i. i.said) y
  ends_so [] (a ∷ []) u x e = absurd (cc (e))
  ends_so [] (a ∷ b ∷ before) u x e = absurd (cc (e))
  ends_so (i ∷ []) [] u x e = absurd (cc (e))
  ends_so (i ∷ j ∷ q) [] u x e = absurd (cc (e))
  ends_so (i ∷ q) (a ∷ before) u x e = ends_so q before u x (cc (e))
