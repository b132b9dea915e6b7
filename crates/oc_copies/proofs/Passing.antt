-- What may be passed makes fine entries.
use Rattle.std.proofs.Common.{◌≡◌, ◌⊎◌, inl, inr, ℕ, suc, ◌<◌, ◌≤◌, Bool, true, false, true≢false, not, List, [], ◌∷◌, Some, refl, sym, ap, arith}
use Rattle.std.specs.Prelude.{ℤ}
use Rattle.std.proofs.lemmas.Bool.{not-false}
use Rattle.oc_tree.specs.declared.tree.Param.{Param}
use Rattle.oc_tree.specs.declared.tree.Passing.{Passing}
use Rattle.oc_tree.specs.declared.tree.Passing.TheVariants as passings
use Rattle.oc_meaning.specs.Store.{Place, Local, Global, Turn, Nowhere}
use Rattle.oc_meaning.specs.Exec.{Passed, Copied, Lent}
use Rattle.oc_copies.specs.Copies.{lent_place, passing_at}
use Rattle.oc_copies.proofs.Cells.{IsCell}
use Rattle.oc_tree.specs.Assigned.{is_mutable}
use Rattle.oc_copies.proofs.Root.{entries, after_values, IsLow, ApartAll, Fine}

pub more_values : (qs : List Param) (ps : List Passed) (n : ℕ) → n ≤ after_values qs ps n
more_values [] ps n = omega arith
more_values (q ∷ qs) [] n = omega arith
more_values (q ∷ qs) (Copied v ∷ ps) n = let h = more_values qs ps (suc n) in omega (arith, h)
more_values (q ∷ qs) (Lent a ∷ ps) n = more_values qs ps n

pub mutable_is : (q : Passing) → is_mutable q ≡ true → q ≡ passings.Mutable
mutable_is passings.Mutable e = refl
mutable_is passings.Value e = absurd (true≢false (sym e))
mutable_is passings.Shared e = absurd (true≢false (sym e))

module _ (base nvs : ℕ) where
  low_more : (n : ℕ) (q : Place) → base ≤ n → IsLow base nvs q → IsLow n nvs q
  low_more n (Local l) h i = omega (arith, h, i)
  low_more n (Global g) h i = i
  low_more n (Turn z) h i = tt
  low_more n Nowhere h i = i

  pub not_value : (n : ℕ) (q : Place) → base ≤ n → IsLow base nvs q → q ≡ Local n → ⊥
  not_value n (Local l) h i e = let s : l ≡ n = cc in omega (arith, h, i, s)
  not_value n (Global g) h i e = absurd (cc)
  not_value n (Turn z) h i e = absurd (cc)
  not_value n Nowhere h i e = i

  -- what the places that are lent must be
  abbrev pub Lows : List Passed → Type 0
  Lows ps = (i : ℕ) (q : Place) → lent_place ps i ≡ Some q → IsLow base nvs q

  pub later_place : (s : Passed) (ps : List Passed) → Lows (s ∷ ps) → Lows ps
  later_place (Copied v) ps h i q e = h (suc i) q e
  later_place (Lent a) ps h i q e = h (suc i) q e

  -- a value's variable is no other's
  value_apart : (m : ℕ) (qs : List Param) (ps : List Passed) (n : ℕ) → base ≤ m → m < n → Lows ps → ApartAll (Local m, false) (entries qs ps n)
  value_apart m [] ps n b h low = tt
  value_apart m (q ∷ qs) [] n b h low = tt
  value_apart m (q ∷ qs) (Copied v ∷ ps) n b h low = (λ f e. let s : m ≡ n = cc in omega (arith, h, s), value_apart m qs ps (suc n) b (omega (arith, h)) (later_place (Copied v) ps low))
  value_apart m (q ∷ qs) (Lent a ∷ ps) n b h low = (λ f e. not_value m a b (low 0 a refl) (sym e), value_apart m qs ps n b h (later_place (Lent a) ps low))

  -- a place that is lent to be written is lent once
  lent_apart : (a : Place) (only : Bool) (qs : List Param) (ps : List Passed) (n : ℕ) → base ≤ n → IsLow base nvs a → Lows ps →
      ((j : ℕ) → lent_place ps j ≡ Some a → (only ≡ false) ⊎ (passing_at qs j ≡ Some passings.Mutable) → ⊥) → ApartAll (a, only) (entries qs ps n)
  lent_apart a only [] ps n b la low once = tt
  lent_apart a only (q ∷ qs) [] n b la low once = tt
  lent_apart a only (q ∷ qs) (Copied v ∷ ps) n b la low once = (λ f e. not_value n a b la e, lent_apart a only qs ps (suc n) (omega (arith, b)) la (later_place (Copied v) ps low) (λ j. once (suc j)))
  lent_apart a only (q ∷ qs) (Lent c ∷ ps) n b la low once = (
    λ f e. once 0 (ap Some (sym e)) (elim f [ inl k ↦ inl k | inr k ↦ inr (ap Some (mutable_is q.passing (not-false (is_mutable q.passing) k))) ]),
    lent_apart a only qs ps n b la
        (later_place (Lent c) ps low) (λ j. once (suc j)),
  )

  cell_of : (a : Place) → IsLow base nvs a → ((z : ℤ) → a ≡ Turn z → ⊥) → IsCell a
  cell_of (Local l) i h = tt
  cell_of (Global g) i h = tt
  cell_of (Turn z) i h = absurd (h z refl)
  cell_of Nowhere i h = absurd i

  pub fine_entries : (qs : List Param) (ps : List Passed) (n : ℕ) → base ≤ n → Lows ps →
      ((i j : ℕ) (q : Place) → passing_at qs i ≡ Some passings.Mutable → lent_place ps i ≡ Some q → lent_place ps j ≡ Some q → i ≡ j) →
      ((i : ℕ) (z : ℤ) → passing_at qs i ≡ Some passings.Mutable → lent_place ps i ≡ Some (Turn z) → ⊥) → Fine (after_values qs ps n) nvs (entries qs ps n)
  fine_entries [] ps n b low once fixed = tt
  fine_entries (q ∷ qs) [] n b low once fixed = tt
  fine_entries (q ∷ qs) (Copied v ∷ ps) n b low once fixed =
      let m = more_values qs ps (suc n) in (
        omega (arith, m),
        λ f. tt,
        value_apart n qs ps (suc n) b (omega arith) (later_place (Copied v) ps low),
        fine_entries qs ps (suc n) (omega (arith, b)) (later_place (Copied v) ps low) (λ i j a p e f. let s = once (suc i) (suc j) a p e f in omega (arith, s)) (λ i z. fixed (suc i) z),
      )
  fine_entries (q ∷ qs) (Lent a ∷ ps) n b low once fixed =
      let m = more_values qs ps n in (
        low_more (after_values qs ps n) a (omega (arith, b, m)) (low 0 a refl),
        λ f. cell_of a (low 0 a refl) (λ z e. fixed 0 z (ap Some (mutable_is q.passing (not-false (is_mutable q.passing) f))) (ap Some e)),
        lent_apart a (not (is_mutable q.passing)) qs ps n b (low 0 a refl) (later_place (Lent a) ps low) (λ j e f. elim f [
          | inl k ↦ (let s = once 0 (suc j) a (ap Some (mutable_is q.passing (not-false (is_mutable q.passing) k))) refl e in absurd (omega (arith, s)))
          | inr k ↦ (let s = once (suc j) 0 a k e refl in absurd (omega (arith, s)))
        ]),
        fine_entries qs ps n b (later_place (Lent a) ps low) (λ i j c p e f. let s = once (suc i) (suc j) c p e f in omega (arith, s)) (λ i z. fixed (suc i) z),
      )
