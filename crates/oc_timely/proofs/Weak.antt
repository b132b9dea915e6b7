-- What is kept of the tags of one set: behind an earlier one with samples stands no mark, or its samples were there before the region in which it is.
use Rattle.std.proofs.Common.{◌≡◌, ◌⊎◌, inl, inr, ℕ, suc, ◌<◌, ◌≤◌, Bool, true, false, List, [], ◌∷◌, ◌++◌, length, Some, refl, ap, sym, subst, ◌∙◌, arith, append_assoc}
use Rattle.std.proofs.Common.{length-append, true≢false}
use Rattle.std.specs.Prelude.{ℤ, slice_get}
use Rattle.oc_tree.specs.Tree.{TFunction, TProgram}
use Rattle.oc_tree.specs.declared.said.Said.{Said}
use Rattle.oc_tree.specs.declared.said.Said.TheVariants.{Sensed, Showed, Entered, Committed, Aborted, Off, Dark, Ended}
use Rattle.oc_tree.specs.declared.said.Shown.TheVariants.{Tagged}
use Rattle.oc_meaning.specs.Store.{Event}
use Rattle.oc_tree.specs.Members.{IsOf}
use Rattle.oc_honest.specs.Timely.{set_of, AreTogether}
use Rattle.oc_timely.specs.Enough.{taken_in, open_after, is_open, since_after, since}
use Rattle.oc_timely.specs.Modes.{AllFine}
use Rattle.oc_timely.specs.Sets.{AreNoMarks, IsUnparted, AreUnparted}
use Rattle.oc_timely.proofs.Gathers.{count_more, fine_part, tag_since}
use Rattle.oc_laws.proofs.Members.{in_append}
use Rattle.oc_timely.proofs.Closed.{tag_number}
use Rattle.oc_timely.proofs.Tagged.{IsOne}

-- ---- lists

-- what comes before an element, and what behind it
pub split_at : (x : Event) (es : List Event) → IsOf x es → (a : List Event) × (b : List Event) × (es ≡ a ++ x ∷ b)
split_at x [] o = absurd o
split_at x (e ∷ es) (inl s) = ([], es, ap (λ y. y ∷ es) (sym s))
split_at x (e ∷ es) (inr o) = let r = split_at x es o in (e ∷ r.0, r.1, ap (λ l. e ∷ l) r.2)

no_marks_part : (a b : List Event) → AreNoMarks (a ++ b) → AreNoMarks a
no_marks_part [] b h = tt
no_marks_part (e ∷ a) b h = (h.0, no_marks_part a b h.1)

no_marks_split : (es a b : List Event) → es ≡ a ++ b → AreNoMarks es → AreNoMarks a
no_marks_split es a b e h = no_marks_part a b (subst AreNoMarks e h)

longer : (xs ys : List Event) → length ys ≡ length (xs ++ ys) → length xs ≡ 0
longer xs ys e = let l = length-append xs ys in omega (arith, e, l)

-- what stands in front of the same list is the same
pub same_front : (xs ys zs : List Event) → xs ++ zs ≡ ys ++ zs → xs ≡ ys
same_front [] [] zs e = refl
same_front [] (y ∷ ys) zs e = absurd (let l = length-append ys zs in let n : length zs ≡ suc (length (ys ++ zs)) = ap length e in omega (arith, l, n))
same_front (x ∷ xs) [] zs e = absurd (let l = length-append xs zs in let n : suc (length (xs ++ zs)) ≡ length zs = ap length e in omega (arith, l, n))
same_front (x ∷ xs) (y ∷ ys) zs e =
    let first : x ≡ y = cc in
    let tail : xs ++ zs ≡ ys ++ zs = cc in
    let rest = same_front xs ys zs tail in
    λ i. first i ∷ rest i

-- ---- regions that begin later

open_since : (s : Said) (es : List Event) (n t : ℕ) (b : Bool) → t ≤ taken_in es → (b ≡ true → t ≤ n) → open_after s b ≡ true → t ≤ since_after s es n
open_since (Entered r) es n t b h k e = h
open_since (Committed r) es n t b h k e = absurd (true≢false (sym e))
open_since (Sensed q z) es n t b h k e = k e
open_since (Showed w) es n t b h k e = k e
open_since (Aborted r) es n t b h k e = k e
open_since (Off u) es n t b h k e = k e
open_since Dark es n t b h k e = k e
open_since (Ended w) es n t b h k e = k e

taken_more : (newer older : List Event) → taken_in older ≤ taken_in (newer ++ older)
taken_more [] older = omega arith
taken_more (e ∷ newer) older = let r = taken_more newer older in let c = count_more e.said (taken_in (newer ++ older)) in omega (arith, r, c)

-- where none was open, one that is has begun since
pub begun_later : (newer older : List Event) → is_open older ≡ false → is_open (newer ++ older) ≡ true → taken_in older ≤ since (newer ++ older)
begun_later [] older f e = absurd (true≢false (sym e ∙ f))
begun_later (x ∷ newer) older f e =
    open_since x.said (newer ++ older) (since (newer ++ older)) (taken_in older) (is_open (newer ++ older)) (taken_more newer older) (λ t. begun_later newer older f t) e

-- ---- what is kept

-- a tag whose sample was there before the execution of the region that is open
pub record IsStale (x : Event) (j : ℕ) (es : List Event) : Type 0 where
  pub newer : List Event
  pub older : List Event
  pub is : es ≡ newer ++ x ∷ older
  pub stale : is_open older ≡ true → since older ≤ j → ⊥

module _ (p : TProgram) (f : ℕ) (g : TFunction) (k : ℤ) where
  abbrev One : Event → Type 0
  One e = IsOne p f g k e

  abbrev pub AreWeak : List Event → Type 0
  AreWeak [] = Unit {0}
  AreWeak (e ∷ es) = ((x : Event) (j : ℕ) → IsOf x es → AreTogether p x e → One x → IsOf j x.samples → IsUnparted x es ⊎ IsStale x j es) × AreWeak es

  -- what is together with a tag of the set is one
  same_set : (x e : Event) → AreTogether p x e → One x → One e
  same_set x e t o =
      let number : t.one ≡ o.stmt = ap tag_number (sym t.first ∙ o.said) in
      let set : t.set ≡ (f, k) = (let q : Some t.set ≡ Some (f, k) = sym t.first_set ∙ ap (set_of p) number ∙ o.set_is in cc q) in
      record { stmt = t.other; said = t.second; set_is = t.second_set ∙ ap Some set; instance_is = refl }

  -- no tag of the set was told
  pub weak_clean : (newer older : List Event) → ((e : Event) → IsOf e newer → One e → ⊥) → AreWeak older → AreWeak (newer ++ older)
  weak_clean [] older none w = w
  weak_clean (e ∷ newer) older none w = (λ x j i t o q. absurd (none e (inl refl) (same_set x e t o)), weak_clean newer older (λ y i. none y (inr i)) w)

  -- how it is that what was told parts none
  abbrev pub PartsNone : (newer older : List Event) → Type 0
  PartsNone newer older = AreNoMarks newer ⊎ ((is_open older ≡ false) × ((x : Event) → IsOf x newer → One x → (j : ℕ) → IsOf j x.samples → j < taken_in older))

  parts_tail : (e : Event) (newer older : List Event) → PartsNone (e ∷ newer) older → PartsNone newer older
  parts_tail e newer older (inl h) = inl h.1
  parts_tail e newer older (inr h) = inr (h.0, λ x i o j q. h.1 x (inr i) o j q)

  -- a tag of what was told has nothing behind it, or is stale
  in_newer : (newer older : List Event) → PartsNone newer older → (x : Event) (j : ℕ) → IsOf x newer → One x → IsOf j x.samples → IsUnparted x (newer ++ older) ⊎ IsStale x j (newer ++ older)
  in_newer newer older how x j i o q = by how (split_at x newer i)
    where
      by : PartsNone newer older → (a : List Event) × (b : List Event) × (newer ≡ a ++ x ∷ b) → IsUnparted x (newer ++ older) ⊎ IsStale x j (newer ++ older)
      by (inl h) s =
          inl (record { more = s.0; older = s.1 ++ older; is = ap (λ l. l ++ older) s.2 ∙ append_assoc s.0 (x ∷ s.1) older; marks = no_marks_split newer s.0 (x ∷ s.1) s.2 h })
      by (inr h) s =
          inr (record {
            newer = s.0;
            older = s.1 ++ older;
            is = ap (λ l. l ++ older) s.2 ∙ append_assoc s.0 (x ∷ s.1) older;
            stale = λ e l. (let b = begun_later s.1 older h.0 e in let n = h.1 x i o j q in omega (arith, b, n, l));
          })

  -- the tags that were told are of later instances
  pub weak_join : (newer older : List Event) (c : ℕ) → ((e : Event) → IsOf e newer → One e → c ≤ e.instance) → ((e : Event) → IsOf e older → One e → e.instance < c) → PartsNone newer older →
      AreWeak older → AreWeak (newer ++ older)
  weak_join [] older c late early how w = w
  weak_join (e ∷ newer) older c late early how w =
      (λ x j i t o q. by x j t o q (in_append x newer older i), weak_join newer older c (λ y i. late y (inr i)) early (parts_tail e newer older how) w)
    where
      by : (x : Event) (j : ℕ) → AreTogether p x e → One x → IsOf j x.samples → IsOf x newer ⊎ IsOf x older → IsUnparted x (newer ++ older) ⊎ IsStale x j (newer ++ older)
      by x j t o q (inl i) = in_newer newer older (parts_tail e newer older how) x j i o q
      by x j t o q (inr i) = let a = late e (inl refl) (same_set x e t o) in let b = early x i o in let s = t.instance in absurd (omega (arith, a, b, s))

-- ---- what is left of it where all is fine

not_stale : (x : Event) (j : ℕ) (es : List Event) (n : ℕ) → x.said ≡ Showed (Tagged n) → IsOf j x.samples → AllFine es → IsStale x j es → ⊥
not_stale x j es n s q fine t =
    let g = fine_part t.newer (x ∷ t.older) (subst AllFine t.is fine) in
    let a = tag_since x.said n x t.older s g.0 j q in
    t.stale a.0 a.1

pub unparted : (p : TProgram) (es : List Event) → AllFine es → ((f : ℕ) (g : TFunction) (k : ℤ) → slice_get p.functions f ≡ Some g → AreWeak p f g k es) →
    ((n : ℕ) (set : ℕ × ℤ) → set_of p n ≡ Some set → (g : TFunction) × (slice_get p.functions set.0 ≡ Some g)) → AreUnparted p es
unparted p [] fine weak stands = tt
unparted p (e ∷ es) fine weak stands = (
  λ x j i t q. (let g = stands t.one t.set t.first_set in
      by x j t q ((weak t.set.0 g.0 t.set.1 g.1).0 x j i t (record { stmt = t.one; said = t.first; set_is = t.first_set; instance_is = refl }) q)),
  unparted p es fine.1
      (λ f g k at. (weak f g k at).1) stands,
)
  where
    by : (x : Event) (j : ℕ) → AreTogether p x e → IsOf j x.samples → IsUnparted x es ⊎ IsStale x j es → IsUnparted x es
    by x j t q (inl b) = b
    by x j t q (inr s) = absurd (not_stale x j es t.one t.first q fine.1 s)
