-- What one more item does to a report.
use Rattle.std.proofs.Common.{◌≡◌, ℕ, ℤ, List, [], ◌∷◌, ◌++◌, None, refl, sym, ap, ◌∙◌, subst, ⊎_elim, inl, inr, Bool, false}
use Rattle.std.specs.Prelude.{◌⊎◌}
use Rattle.oc_tree.specs.Said.{Told}
use Rattle.oc_tree.specs.declared.said.Ending.{Ending}
use Rattle.oc_tree.specs.declared.said.Said.{Said}
use Rattle.oc_tree.specs.declared.said.Said.TheVariants.{Ended}
use Rattle.oc_items.specs.Erase.{mark_or, erase, without_offs, marked, without_marks, kept, samples_of, kept_samples, inside_after, HasNoOffInside}
use Rattle.oc_outage.specs.Honest.{IsRead, AreRead}
use Rattle.oc_items.specs.Reports.{EndsWith}
use Rattle.oc_outage.proofs.Erasing.{item}
use Rattle.oc_items.proofs.Joined.{NoAbort, erase-append}
use Rattle.oc_items.proofs.Parting.{without_offs-append, without_marks-append, samples_of-append}

-- whether a region is under way at the end
abbrev pub inside : Bool → List Told → Bool
inside b [] = b
inside b (i ∷ is) = inside (inside_after b i.said) is

inside-append : (b : Bool) (xs ys : List Told) → inside b (xs ++ ys) ≡ inside (inside b xs) ys
inside-append b [] ys = refl
inside-append b (i ∷ xs) ys = inside-append (inside_after b i.said) xs ys

outside-append : (b : Bool) (xs ys : List Told) → HasNoOffInside b xs → HasNoOffInside (inside b xs) ys → HasNoOffInside b (xs ++ ys)
outside-append b [] ys h k = k
outside-append b (i ∷ xs) ys h k = (h.0, outside-append (inside_after b i.said) xs ys h.1 k)

read-append : (h : ℕ → ℕ → ℤ) (xs ys : List Told) → AreRead h xs → AreRead h ys → AreRead h (xs ++ ys)
read-append h [] ys a b = b
read-append h (i ∷ xs) ys a b = (a.0, read-append h xs ys a.1 b)

pub read_more : (h : ℕ → ℕ → ℤ) (xs : List Told) (t : ℕ) (s : Said) → AreRead h xs → IsRead h t s → AreRead h (xs ++ item t s ∷ [])
read_more h xs t s a b = read-append h xs (item t s ∷ []) a (b, tt)

-- an item that is no `abort` is simply added
module _ (xs : List Told) (t : ℕ) (s : Said) (n : NoAbort (mark_or s None)) where
  pub marked_more : marked (xs ++ item t s ∷ []) ≡ marked xs ++ marked (item t s ∷ [])
  marked_more = ap without_offs (erase-append xs (item t s ∷ []) n) ∙ without_offs-append (erase xs) (erase (item t s ∷ []))

  pub samples_more : kept_samples (xs ++ item t s ∷ []) ≡ kept_samples xs ++ kept_samples (item t s ∷ [])
  samples_more =
      ap (λ l. samples_of (without_marks l)) marked_more
      ∙ ap samples_of (without_marks-append (marked xs) (marked (item t s ∷ [])))
      ∙ samples_of-append (kept xs) (kept (item t s ∷ []))

  pub inside_more : inside false (erase (xs ++ item t s ∷ [])) ≡ inside (inside false (erase xs)) (erase (item t s ∷ []))
  inside_more = ap (inside false) (erase-append xs (item t s ∷ []) n) ∙ inside-append false (erase xs) (erase (item t s ∷ []))

  pub outside_more : HasNoOffInside false (erase xs) → HasNoOffInside (inside false (erase xs)) (erase (item t s ∷ [])) → HasNoOffInside false (erase (xs ++ item t s ∷ []))
  outside_more a b = subst (HasNoOffInside false) (sym (erase-append xs (item t s ∷ []) n)) (outside-append false (erase xs) (erase (item t s ∷ [])) a b)

-- a prefix of a report with one more item is the whole, or a prefix of what was there before
pub prefix_last : (q rest xs : List Told) (i : Told) → q ++ rest ≡ xs ++ i ∷ [] → (q ≡ xs ++ i ∷ []) ⊎ ((more : List Told) × (q ++ more ≡ xs))
prefix_last [] rest xs i e = inr (xs, refl)
prefix_last (a ∷ []) rest [] i e = let h : a ≡ i = cc in inl (ap (λ x. x ∷ []) h)
prefix_last (a ∷ (b ∷ q)) rest [] i e = absurd (cc)
prefix_last (a ∷ q) rest (b ∷ xs) i e =
    ⊎_elim
    (λ s. inl (cc))
    (λ p. inr (p.0, cc (p.1)))
    (prefix_last q rest xs i (cc))

-- a last word stays
pub marked_ended : (xs : List Told) (how : Ending) → EndsWith xs (Ended how) → (before : List Said) × (marked xs ≡ before ++ Ended how ∷ [])
marked_ended xs how e = (marked e.0, ap marked e.2 ∙ marked_more e.0 e.1 (Ended how) tt)
