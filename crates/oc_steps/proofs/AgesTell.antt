-- What an age tells of the samples of a set.
use Rattle.std.proofs.Common.{◌≡◌, ◌<◌, ◌≤◌, ℕ, suc, Bool, true, false, List, [], ◌∷◌, length, get_or, refl, sym, ap, ◌∙◌, inl, inr, eqb-true, eq-eqb, arith, ltb-true, ltb-false, nat_lt}
use Rattle.std.proofs.lemmas.List.{get_or_default, get_or_past}
use Rattle.std.specs.Prelude.{◌⊎◌, ◌==◌, if◌then◌else◌}
use Rattle.oc_steps.specs.Ages.{mixed, join_ages, age_of}
use Rattle.oc_tree.specs.Members.{IsOf}
use Rattle.oc_steps.specs.AgesTell.{Differ, HasAge, AgesTell}

module _ (before : ℕ → ℕ) where
  -- an age of two parts that is one number
  split_one : (a : ℕ) (b : List ℕ) (x : ℕ) → join_ages (a ∷ []) b ≡ x ∷ [] → (a ≡ x) × ((b ≡ []) ⊎ (b ≡ x ∷ []))
  split_one a [] x e = (cc (e), inl refl)
  split_one a (y ∷ []) x e = by (a == y) refl e
    where
      by : (t : Bool) → (a == y) ≡ t → (if t then a ∷ [] else mixed) ≡ x ∷ [] → (a ≡ x) × (((y ∷ []) ≡ []) ⊎ ((y ∷ []) ≡ x ∷ []))
      by true h e = let ax : a ≡ x = cc (e) in (ax, inr (ap (λ q. q ∷ []) (sym (eqb-true a y h) ∙ ax)))
      by false h e = absurd (cc (e))
  split_one a (y ∷ z ∷ w) x e = absurd (cc (e))

  not_none : (a : ℕ) (b : List ℕ) → join_ages (a ∷ []) b ≡ [] → ⊥
  not_none a [] e = absurd (cc (e))
  not_none a (y ∷ []) e = by (a == y) e
    where
      by : (t : Bool) → (if t then a ∷ [] else mixed) ≡ [] → ⊥
      by true e = absurd (cc (e))
      by false e = absurd (cc (e))
  not_none a (y ∷ z ∷ w) e = absurd (cc (e))

  none : (s : List ℕ) → age_of before s ≡ [] → s ≡ []
  none [] e = refl
  none (j ∷ s) e = absurd (not_none (before j) (age_of before s) e)

  each : (s : List ℕ) (x : ℕ) → age_of before s ≡ x ∷ [] → (j : ℕ) → IsOf j s → before j ≡ x
  each [] x e j h = absurd h
  each (i ∷ s) x e j (inl q) = ap before q ∙ (split_one (before i) (age_of before s) x e).0
  each (i ∷ s) x e j (inr h) = rest (split_one (before i) (age_of before s) x e).1 (λ g. each s x g j h) h
    where
      rest : (age_of before s ≡ []) ⊎ (age_of before s ≡ x ∷ []) → (age_of before s ≡ x ∷ [] → before j ≡ x) → IsOf j s → before j ≡ x
      rest (inl g) ih h = absurd (Rattle.std.proofs.Common.subst (IsOf j) (none s g) h)
      rest (inr g) ih h = ih g

  -- a set of one age has a sample of it
  pub some : (s : List ℕ) (x : ℕ) → age_of before s ≡ x ∷ [] → (j : ℕ) × IsOf j s × (before j ≡ x)
  some [] x e = absurd (cc (e))
  some (i ∷ s) x e = (i, inl refl, (split_one (before i) (age_of before s) x e).0)

  grown : (i : ℕ) (s : List ℕ) → Differ before s → Differ before (i ∷ s)
  grown i s d = (d.0, d.1, inr d.2, inr d.3, d.4)

  mixes : (s : List ℕ) (x y : ℕ) (w : List ℕ) → age_of before s ≡ x ∷ y ∷ w → Differ before s
  mixes [] x y w e = absurd (cc (e))
  mixes (i ∷ s) x y w e = by (age_of before s) refl e (λ a b v g. mixes s a b v g)
    where
      by : (a : List ℕ) → age_of before s ≡ a → join_ages (before i ∷ []) a ≡ x ∷ y ∷ w → ((a b : ℕ) (v : List ℕ) → age_of before s ≡ a ∷ b ∷ v → Differ before s) → Differ before (i ∷ s)
      by [] g e ih = absurd (cc (e))
      by (a ∷ []) g e ih = test (before i == a) refl e
        where
          test : (t : Bool) → (before i == a) ≡ t → (if t then before i ∷ [] else mixed) ≡ x ∷ y ∷ w → Differ before (i ∷ s)
          test true h e = absurd (cc (e))
          test false h e =
              let k = some s a g in
              (i, k.0, inl refl, inr k.1, λ q. absurd (let r : true ≡ false = sym (eq-eqb (before i) a (q ∙ k.2)) ∙ h in cc (r)))
      by (a ∷ b ∷ v) g e ih = grown i s (ih a b v g)

within : (table s : List ℕ) (x : ℕ) → HasAge table s (x ∷ []) → (j : ℕ) → IsOf j s → j < length table
within table s x h j m = by (nat_lt j (length table)) refl
  where
    by : (t : Bool) → nat_lt j (length table) ≡ t → j < length table
    by true e = ltb-true j (length table) e
    by false e =
        let l : length table ≤ j = ltb-false j (length table) e in
        let past : get_or table j (suc x) ≡ suc x = get_or_past table j (suc x) l in
        let a : get_or table j (suc x) ≡ x = each (λ k. get_or table k (suc x)) s x (h (λ k. get_or table k (suc x)) (λ k lt. get_or_default table k (suc x) 0 lt)) j m in
        let no : suc x ≡ x = sym past ∙ a in
        absurd (omega (arith, no))

pub ages_tell : AgesTell
ages_tell = record { each = each; none = none; mixes = mixes; within = within }
