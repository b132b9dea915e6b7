-- At the start of a call the own variables hold what was passed.
use Rattle.std.proofs.Common.{◌≡◌, ◌⊎◌, inl, inr, ℕ, suc, ◌+◌, ◌<◌, ◌≤◌, Bool, true, false, ◌==◌, List, [], ◌∷◌, length, Some, refl, sym, ap, ◌∙◌, subst, arith}
use Rattle.std.specs.Prelude.{if◌then◌else◌, unwrap_or}
use Rattle.oc_tree.specs.Names.{Text}
use Rattle.oc_tree.specs.declared.tree.Param.{Param}
use Rattle.oc_meaning.specs.Store.{Held, Place, Local, Global, Turn, Nowhere, Store, at, nothing, holding, held_at}
use Rattle.oc_meaning.specs.Exec.{Passed, Copied, Lent}
use Rattle.oc_meaning.specs.Run.{Frame, with_param, with_params}
use Rattle.oc_copies.specs.Copies.{own_param, own_params}
use Rattle.oc_copies.proofs.Root.{Entry, entries, after_values, to_own, fixed_own, IsLow}
use Rattle.oc_copies.proofs.Passing.{Lows, later_place}

-- what a place holds where these are the local variables
abbrev pub held_in : Store → List Held → Place → Held
held_in σ xs q = held_at (record σ { locals = xs }) q

newest_held : (σ : Store) (xs : List Held) (h : Held) (n : ℕ) → length xs ≡ n → held_in σ (h ∷ xs) (Local n) ≡ h
newest_held σ xs h n e = let same : (n == length xs) ≡ true = grind (arith, e) in ap (λ b. unwrap_or (if b then Some h else at xs n) nothing) same

older_held : (σ : Store) (xs : List Held) (h : Held) (q : Place) → (q ≡ Local (length xs) → ⊥) → held_in σ (h ∷ xs) q ≡ held_in σ xs q
older_held σ xs h (Local l) n = by (l == length xs) refl
  where
    by : (b : Bool) → (l == length xs) ≡ b → unwrap_or (if b then Some h else at xs l) nothing ≡ unwrap_or (at xs l) nothing
    by true e = let same : l ≡ length xs = grind (arith, e) in absurd (n (ap Local same))
    by false e = refl
older_held σ xs h (Global g) n = refl
older_held σ xs h (Turn z) n = refl
older_held σ xs h Nowhere n = refl

module _ (σ : Store) (nvs n : ℕ) (es : List Entry) where
  abbrev pub base : ℕ
  base = length σ.locals

  -- so many own variables are made, and the next value stands at m
  pub record IsMade (k m : ℕ) (own lent : Frame) : Type 0 where
    pub many : length own.locals ≡ base + k
    pub other_many : length lent.locals ≡ m
    pub above : base ≤ m
    pub held : (i : ℕ) → i < k → held_in σ own.locals (Local (base + i)) ≡ held_in σ lent.locals (to_own es n i)
    pub few : (i l : ℕ) → i < k → to_own es n i ≡ Local l → l < m
    pub below : (l : ℕ) → l < base → held_in σ own.locals (Local l) ≡ held_at σ (Local l)
    pub other_below : (l : ℕ) → l < base → held_in σ lent.locals (Local l) ≡ held_at σ (Local l)

  -- what is left of the entries
  pub record AreLeft (k : ℕ) (rest : List Entry) : Type 0 where
    pub places : (i : ℕ) → to_own es n (k + i) ≡ to_own rest n i
    pub fixings : (i : ℕ) → fixed_own es (k + i) ≡ fixed_own rest i

  pub left_more : (k : ℕ) (e : Entry) (rest : List Entry) → AreLeft k (e ∷ rest) → AreLeft (suc k) rest
  left_more k e rest h = record {
    places = λ i. let s : suc k + i ≡ k + suc i = omega arith in ap (to_own es n) s ∙ h.places (suc i);
    fixings = λ i. let s : suc k + i ≡ k + suc i = omega arith in ap (fixed_own es) s ∙ h.fixings (suc i);
  }

  pub left_first : (k : ℕ) (e : Entry) (rest : List Entry) → AreLeft k (e ∷ rest) → to_own es n k ≡ e.0
  left_first k e rest h = let s : k ≡ k + 0 = omega arith in ap (to_own es n) s ∙ h.places 0

  less_or_last : (i k : ℕ) → i < suc k → (i < k) ⊎ (i ≡ k)
  less_or_last i k h = by (i == k) refl
    where
      by : (b : Bool) → (i == k) ≡ b → (i < k) ⊎ (i ≡ k)
      by true e = inr (grind (arith, e))
      by false e = inl (grind (arith, e, h))

  -- a place of the caller's holds what it held
  pub low_held : (k m : ℕ) (own lent : Frame) → IsMade k m own lent → (q : Place) → IsLow base nvs q → held_in σ lent.locals q ≡ held_at σ q
  low_held k m own lent made (Local l) h = made.other_below l h
  low_held k m own lent made (Global g) h = refl
  low_held k m own lent made (Turn z) h = refl
  low_held k m own lent made Nowhere h = refl

  local_is : (a b : ℕ) → Local a ≡ Local b → a ≡ b
  local_is a b e = cc

  pub made_copied : (k m : ℕ) (own lent : Frame) (x : Text) (v : _) → to_own es n k ≡ Local m → IsMade k m own lent →
      IsMade (suc k) (suc m) (own_param σ x (Copied v) own) (with_param x (Copied v) lent)
  made_copied k m own lent x v e made = record {
    many = omega (arith, made.many);
    other_many = omega (arith, made.other_many);
    above = omega (arith, made.above);
    held = λ i h. elim (less_or_last i k h) [
      | inl j ↦ older_held σ own.locals (holding v) (Local (base + i)) (λ q. let s = local_is _ _ q in absurd (omega (arith, s, made.many, j))) ∙ made.held i j
          ∙ sym (older_held σ lent.locals (holding v) (to_own es n i) (λ q. let s = made.few i (length lent.locals) j q in absurd (omega (arith, s, made.other_many))))
      | inr j ↦ subst (λ t. held_in σ (holding v ∷ own.locals) (Local (base + t)) ≡ held_in σ (holding v ∷ lent.locals) (to_own es n t)) (sym j)
          (newest_held σ own.locals (holding v) (base + k) made.many ∙ sym (ap (held_in σ (holding v ∷ lent.locals)) e ∙ newest_held σ lent.locals (holding v) m made.other_many))
    ];
    few = λ i l h q. elim (less_or_last i k h) [
      | inl j ↦ (let s = made.few i l j q in omega (arith, s))
      | inr j ↦ (let s = local_is m l (sym e ∙ ap (to_own es n) (sym j) ∙ q) in omega (arith, s))
    ];
    below = λ l h. older_held σ own.locals (holding v) (Local l) (λ q. let s = local_is _ _ q in absurd (omega (arith, s, made.many, h))) ∙ made.below l h;
    other_below = λ l h. older_held σ lent.locals (holding v) (Local l) (λ q. let s = local_is _ _ q in absurd (omega (arith, s, made.other_many, made.above, h))) ∙ made.other_below l h;
  }

  pub made_lent : (k m : ℕ) (own lent : Frame) (x : Text) (a : Place) → to_own es n k ≡ a → IsLow base nvs a → IsMade k m own lent →
      IsMade (suc k) m (own_param σ x (Lent a) own) (with_param x (Lent a) lent)
  made_lent k m own lent x a e low made = record {
    many = omega (arith, made.many);
    other_many = made.other_many;
    above = made.above;
    held = λ i h. elim (less_or_last i k h) [
      | inl j ↦ older_held σ own.locals (held_at σ a) (Local (base + i)) (λ q. let s = local_is _ _ q in absurd (omega (arith, s, made.many, j))) ∙ made.held i j
      | inr j ↦ subst (λ t. held_in σ (held_at σ a ∷ own.locals) (Local (base + t)) ≡ held_in σ lent.locals (to_own es n t)) (sym j)
          (newest_held σ own.locals (held_at σ a) (base + k) made.many ∙ sym (ap (held_in σ lent.locals) e ∙ low_held k m own lent made a low))
    ];
    few = λ i l h q. elim (less_or_last i k h) [
      | inl j ↦ made.few i l j q
      | inr j ↦ low_few l (subst (IsLow base nvs) (sym e ∙ ap (to_own es n) (sym j) ∙ q) low)
    ];
    below = λ l h. older_held σ own.locals (held_at σ a) (Local l) (λ q. let s = local_is _ _ q in absurd (omega (arith, s, made.many, h))) ∙ made.below l h;
    other_below = made.other_below;
  }
    where
      low_few : (l : ℕ) → l < base → l < m
      low_few l h = omega (arith, h, made.above)

  -- all parameters
  pub all_made : (qs : List Param) (ps : List Passed) (k m : ℕ) (own lent : Frame) → Lows base nvs ps → AreLeft k (entries qs ps m) → IsMade k m own lent →
      IsMade (k + length (entries qs ps m)) (after_values qs ps m) (own_params σ qs ps own) (with_params qs ps lent)
  all_made [] ps k m own lent low rest made = let s : k ≡ k + 0 = omega arith in subst (λ t. IsMade t m own lent) s made
  all_made (q ∷ qs) [] k m own lent low rest made = let s : k ≡ k + 0 = omega arith in subst (λ t. IsMade t m own lent) s made
  all_made (q ∷ qs) (Copied v ∷ ps) k m own lent low rest made =
      let s : suc k + length (entries qs ps (suc m)) ≡ k + suc (length (entries qs ps (suc m))) = omega arith in
      subst (λ t. IsMade t (after_values qs ps (suc m)) (own_params σ (q ∷ qs) (Copied v ∷ ps) own) (with_params (q ∷ qs) (Copied v ∷ ps) lent)) s
      (all_made qs ps (suc k) (suc m) (own_param σ q.name (Copied v) own) (with_param q.name (Copied v) lent) (later_place base nvs (Copied v) ps low) (left_more k _ _ rest)
      (made_copied k m own lent q.name v (left_first k _ _ rest) made))
  all_made (q ∷ qs) (Lent a ∷ ps) k m own lent low rest made =
      let s : suc k + length (entries qs ps m) ≡ k + suc (length (entries qs ps m)) = omega arith in
      subst (λ t. IsMade t (after_values qs ps m) (own_params σ (q ∷ qs) (Lent a ∷ ps) own) (with_params (q ∷ qs) (Lent a ∷ ps) lent)) s
      (all_made qs ps (suc k) m (own_param σ q.name (Lent a) own) (with_param q.name (Lent a) lent) (later_place base nvs (Lent a) ps low) (left_more k _ _ rest)
      (made_lent k m own lent q.name a (left_first k _ _ rest) (low 0 a refl) made))
