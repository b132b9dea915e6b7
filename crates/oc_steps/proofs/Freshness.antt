-- The test of an age is that of the samples.
use Rattle.std.proofs.Common.{◌≡◌, ◌<◌, ℕ, Bool, true, false, List, [], ◌∷◌, length, get_or, refl, sym, ◌∙◌, subst, eqb-true, eq-eqb, ltb-true, ltb-false, nat_lt}
use Rattle.std.proofs.lemmas.List.{get_or_default, get_or_past}
use Rattle.std.specs.Prelude.{◌≢◌, ◌==◌}
use Rattle.oc_tree.specs.Members.{IsOf}
use Rattle.oc_honest.specs.Timely.{Lived, IsInput}
use Rattle.oc_steps.specs.AgesTell.{Differ, HasAge}
use Rattle.oc_steps.specs.Fold.{is_new, is_one}
use Rattle.oc_steps.specs.Freshness.{AreNumbered, AreNew, AreOne, TestsRight}
use Rattle.oc_steps.proofs.AgesTell.{ages_tell, some}

-- the outages before each sample, and c before those to come
abbrev with_rest : List ℕ → ℕ → ℕ → ℕ
with_rest table c j = get_or table j c

module _ (all : List Lived) (table s : List ℕ) (n : AreNumbered all table) where
  new : (age : List ℕ) (c : ℕ) → HasAge table s age → is_new c age ≡ true → AreNew all s c
  new [] c h e a j ia js inp = absurd (subst (IsOf j) (ages_tell.none (with_rest table 0) s (h (with_rest table 0) (λ k l. refl))) js)
  new (x ∷ []) c h e a j ia js inp =
      (n.each a j ia inp).1 ∙ ages_tell.each (with_rest table 0) s x (h (with_rest table 0) (λ k l. refl)) j js ∙ eqb-true x c e
  new (x ∷ y ∷ w) c h e a j ia js inp = absurd (cc (e))

  -- a sample with another number of outages before it than c, which stands for all that are to come, is one of the inputs
  apart : (c j : ℕ) → with_rest table c j ≢ c → (a : Lived) × IsOf a all × IsInput j a.event × (a.offs ≡ with_rest table c j)
  apart c j d = by (nat_lt j (length table)) refl
    where
      by : (b : Bool) → nat_lt j (length table) ≡ b → (a : Lived) × IsOf a all × IsInput j a.event × (a.offs ≡ with_rest table c j)
      by true e =
          let l : j < length table = ltb-true j (length table) e in
          let a = n.has j l in
          (a.0, a.1, a.2, a.3 ∙ get_or_default table j 0 c l)
      by false e = absurd (d (get_or_past table j c (ltb-false j (length table) e)))

  agrees : (c j : ℕ) → j < length table → with_rest table c j ≡ get_or table j 0
  agrees c j l = get_or_default table j c 0 l

  is_apart : (c j : ℕ) → IsOf j s → with_rest table c j ≢ c → AreNew all s c → ⊥
  is_apart c j js d h = let a = apart c j d in d (sym a.3 ∙ h a.0 j a.1 js a.2)

  differ_old : (c : ℕ) → Differ (with_rest table c) s → AreNew all s c → ⊥
  differ_old c d h = by (with_rest table c d.0 == c) refl
    where
      by : (b : Bool) → (with_rest table c d.0 == c) ≡ b → ⊥
      by true e =
          let jc : with_rest table c d.0 ≡ c = eqb-true (with_rest table c d.0) c e in
          is_apart c d.1 d.3 (λ q. d.4 (jc ∙ sym q)) h
      by false e = is_apart c d.0 d.2 (λ q. absurd (let no : true ≡ false = sym (eq-eqb (with_rest table c d.0) c q) ∙ e in cc (no))) h

  old : (age : List ℕ) (c : ℕ) → HasAge table s age → is_new c age ≡ false → AreNew all s c → ⊥
  old [] c h e k = absurd (cc (e))
  old (x ∷ []) c h e k =
      let j = some (with_rest table c) s x (h (with_rest table c) (agrees c)) in
      is_apart c j.0 j.1 (λ q. absurd (let no : true ≡ false = sym (eq-eqb x c (sym j.2 ∙ q)) ∙ e in cc (no))) k
  old (x ∷ y ∷ w) c h e k = differ_old c (ages_tell.mixes (with_rest table c) s x y w (h (with_rest table c) (agrees c))) k

  one : (age : List ℕ) → HasAge table s age → is_one age ≡ true → AreOne all s
  one [] h e a b j k ia ib js ks x y = absurd (subst (IsOf j) (ages_tell.none (with_rest table 0) s (h (with_rest table 0) (λ i l. refl))) js)
  one (z ∷ []) h e a b j k ia ib js ks x y =
      let at = h (with_rest table 0) (λ i l. refl) in
      (n.each a j ia x).1 ∙ ages_tell.each (with_rest table 0) s z at j js ∙ sym ((n.each b k ib y).1 ∙ ages_tell.each (with_rest table 0) s z at k ks)
  one (x ∷ y ∷ w) h e a b j k ia ib js ks p q = absurd (cc (e))

  -- where all inputs among the samples stand behind the same number of outages, take it for those to come
  more : (age : List ℕ) → HasAge table s age → is_one age ≡ false → AreOne all s → ⊥
  more [] h e k = absurd (cc (e))
  more (x ∷ []) h e k = absurd (cc (e))
  more (x ∷ y ∷ w) h e k =
      let d = ages_tell.mixes (with_rest table 0) s x y w (h (with_rest table 0) (agrees 0)) in
      pair d (with_rest table 0 d.0 == 0) refl
    where
      -- one of the two is an input a: all inputs among the samples stand behind as many outages as it
      from : (i : ℕ) → IsOf i s → with_rest table 0 i ≢ 0 → ⊥
      from i is d =
          let a = apart 0 i d in
          let c : ℕ = a.0.offs in
          old (x ∷ y ∷ w) c h refl (λ b j ib js inp. k b a.0 j i ib a.1 js is inp a.2)

      pair : (d : Differ (with_rest table 0) s) (b : Bool) → (with_rest table 0 d.0 == 0) ≡ b → ⊥
      pair d true g = from d.1 d.3 (λ q. d.4 (eqb-true (with_rest table 0 d.0) 0 g ∙ sym q))
      pair d false g = from d.0 d.2 (λ q. absurd (let no : true ≡ false = sym (eq-eqb (with_rest table 0 d.0) 0 q) ∙ g in cc (no)))

pub tests_right : TestsRight
tests_right = record {
  new = λ all table s age c n. new all table s n age c;
  old = λ all table s age c n. old all table s n age c;
  one = λ all table s age n. one all table s n age;
  more = λ all table s age n. more all table s n age;
}
