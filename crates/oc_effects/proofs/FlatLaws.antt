-- Where the effects of each function are among all.
use Rattle.std.proofs.Common.{◌≡◌, refl, sym, ap, ◌∙◌, subst, ℕ, zero, suc, ◌+◌, ◌-◌, ◌<◌, ◌≤◌, arith, List, [], ◌∷◌, ◌++◌, map, length, take, drop, append_assoc}
use Rattle.std.specs.List.{slice_range, flat_map}
use Rattle.std.proofs.Math.ListN.{get_or}
use Rattle.std.proofs.Math.Seq.{take-append_seam, drop-append_seam}
use Rattle.std.proofs.lemmas.List.{length-append, map-append, take-map, drop-map}
use Rattle.oc_tree.specs.Tree.{TFunction, TProgram}
use Rattle.oc_tree.specs.Places.{at_start, block_placed}
use Rattle.oc_effects.specs.Effects.{TEffect, effect_of, function_effects}
use Rattle.oc_effects.specs.declared.effect.Effect.{Effect}
use Rattle.oc_effects.specs.View.{effect_view}
use Rattle.oc_effects.specs.Flat.{all_effects, starts_from}

-- the effects are those of the statements at their places
pub all_placed : (p : TProgram) (fs : List TFunction) → all_effects p fs ≡ map (effect_of p) (flat_map (λ f. block_placed (at_start f) f.body) fs)
all_placed p [] = refl
all_placed p (f ∷ fs) = ap (λ es. function_effects p f ++ es) (all_placed p fs)
    ∙ sym (map-append (effect_of p) (block_placed (at_start f) f.body) (flat_map (λ g. block_placed (at_start g) g.body) fs))

module _ (p : TProgram) where
  pub starts_length : (n : ℕ) (fs : List TFunction) → length (starts_from p n fs) ≡ suc (length fs)
  starts_length n [] = refl
  starts_length n (f ∷ fs) = ap suc (starts_length (n + length (function_effects p f)) fs)

  first_start : (n : ℕ) (fs : List TFunction) → get_or (starts_from p n fs) 0 0 ≡ n
  first_start n [] = refl
  first_start n (f ∷ fs) = refl

  -- each ends behind where it begins
  pub starts_rise : (n : ℕ) (fs : List TFunction) (i : ℕ) → i < length fs → get_or (starts_from p n fs) i 0 ≤ get_or (starts_from p n fs) (suc i) 0
  starts_rise n [] i h = absurd (omega (arith, h))
  starts_rise n (f ∷ fs) zero h = omega (arith, first_start (n + length (function_effects p f)) fs)
  starts_rise n (f ∷ fs) (suc i) h = starts_rise (n + length (function_effects p f)) fs i (omega (arith, h))

  -- before the end of all
  pub starts_within : (n : ℕ) (fs : List TFunction) (i : ℕ) → i ≤ length fs → get_or (starts_from p n fs) i 0 ≤ n + length (all_effects p fs)
  starts_within n [] zero h = omega arith
  starts_within n [] (suc i) h = absurd (omega (arith, h))
  starts_within n (f ∷ fs) zero h = omega arith
  starts_within n (f ∷ fs) (suc i) h = omega (arith, starts_within (n + length (function_effects p f)) fs i (omega (arith, h)), length-append (function_effects p f) (all_effects p fs))

  cut : (front own rest : List TEffect) (n m : ℕ) → length front ≡ n → m ≡ n + length own → slice_range (front ++ (own ++ rest)) n m ≡ own
  cut front own rest n m h k =
      let e : m - n ≡ length own = omega (arith, k) in
      let d : drop n (front ++ (own ++ rest)) ≡ own ++ rest = ap (λ i. drop i (front ++ (own ++ rest))) (sym h) ∙ drop-append_seam front (own ++ rest) in
      ap (λ i. take i (drop n (front ++ (own ++ rest)))) e ∙ ap (take (length own)) d ∙ take-append_seam own rest

  -- those between are those of the function
  pub part_is : (n : ℕ) (fs : List TFunction) (front : List TEffect) (i : ℕ) → length front ≡ n → i < length fs →
      slice_range (front ++ all_effects p fs) (get_or (starts_from p n fs) i 0) (get_or (starts_from p n fs) (suc i) 0) ≡ get_or (map (function_effects p) fs) i []
  part_is n [] front i l h = absurd (omega (arith, h))
  part_is n (f ∷ fs) front zero l h = cut front (function_effects p f) (all_effects p fs) n (get_or (starts_from p (n + length (function_effects p f)) fs) 0 0) l
      (first_start (n + length (function_effects p f)) fs)
  part_is n (f ∷ fs) front (suc i) l h =
      let m = n + length (function_effects p f) in
      let e : length (front ++ function_effects p f) ≡ m = omega (arith, length-append front (function_effects p f), l) in
      ap (λ es. slice_range es (get_or (starts_from p m fs) i 0) (get_or (starts_from p m fs) (suc i) 0)) (sym (append_assoc front (function_effects p f) (all_effects p fs)))
      ∙ part_is m fs (front ++ function_effects p f) i e (omega (arith, h))

  -- where the part of a function lies
  pub record Bounds (all : List TEffect) (starts : List ℕ) (i : ℕ) : Type 0 where
    pub below : i + 1 < length starts
    pub order : get_or starts i 0 ≤ get_or starts (i + 1) 0
    pub within : get_or starts (i + 1) 0 ≤ length all

  module _ (all : List TEffect) (starts : List ℕ) (i : ℕ) (all_are : all ≡ all_effects p p.functions) (starts_are : starts ≡ starts_from p 0 p.functions) (h : i < length p.functions) where
    next_is : suc i ≡ i + 1
    next_is = omega arith

    pub bounds : Bounds all starts i
    bounds = record {
      below = omega (arith, ap length starts_are, starts_length 0 p.functions, h);
      order = subst (λ ss. get_or ss i 0 ≤ get_or ss (i + 1) 0) (sym starts_are)
          (subst (λ j. get_or (starts_from p 0 p.functions) i 0 ≤ get_or (starts_from p 0 p.functions) j 0) next_is (starts_rise 0 p.functions i h));
      within =
          (let e : get_or starts (i + 1) 0 ≡ get_or (starts_from p 0 p.functions) (suc i) 0 = ap (λ ss. get_or ss (i + 1) 0) starts_are
          ∙ ap (λ j. get_or (starts_from p 0 p.functions) j 0) (sym next_is) in
          omega (arith, e, starts_within 0 p.functions (suc i) h, ap length all_are));
    }

    pub part_at : slice_range all (get_or starts i 0) (get_or starts (i + 1) 0) ≡ get_or (map (function_effects p) p.functions) i []
    part_at =
        ap (λ es. slice_range es (get_or starts i 0) (get_or starts (i + 1) 0)) all_are
        ∙ ap (λ ss. slice_range (all_effects p p.functions) (get_or ss i 0) (get_or ss (i + 1) 0)) starts_are
        ∙ ap (λ j. slice_range (all_effects p p.functions) (get_or (starts_from p 0 p.functions) i 0) (get_or (starts_from p 0 p.functions) j 0)) (sym next_is)
        ∙ part_is 0 p.functions [] i refl h

-- what is seen of a part of what the code has
part_view : (es : List Effect) (m n : ℕ) → map effect_view (slice_range es m n) ≡ slice_range (map effect_view es) m n
part_view es m n = sym (ap (take (n - m)) (drop-map effect_view m es) ∙ take-map effect_view (n - m) (drop m es))

pub part_seen : (p : TProgram) (es : List Effect) (starts : List ℕ) (i : ℕ) → map effect_view es ≡ all_effects p p.functions → starts ≡ starts_from p 0 p.functions → i < length p.functions →
    map effect_view (slice_range es (get_or starts i 0) (get_or starts (i + 1) 0)) ≡ get_or (map (function_effects p) p.functions) i []
part_seen p es starts i a s h = part_view es (get_or starts i 0) (get_or starts (i + 1) 0) ∙ part_at p (map effect_view es) starts i a s h
