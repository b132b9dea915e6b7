-- Tests of members of a list that is put together from others.
use Rattle.std.proofs.Common.{◌≡◌, inl, inr, ℕ, zero, suc, ◌+◌, ◌++◌, Bool, true, true≢false, List, [], ◌∷◌, Some, refl, ap, sym, ◌∙◌, subst, arith}
use Rattle.std.specs.Prelude.{◌||◌, slice_get}
use Rattle.std.specs.List.{list_any, flat_map}
use Rattle.std.proofs.lemmas.Option.{none-some, same_Some}
use Rattle.std.proofs.lemmas.List.Folds.{list_any-append}
use Rattle.std.proofs.lemmas.Bool.{or_left, or_right}
use Rattle.oc_tree.specs.Tree.{TFunction}
use Rattle.oc_tree.specs.Members.{IsOf}
use Rattle.oc_tree.proofs.ReachLaws.{or_elim}

module _ {A B : Type 0} (test : B → Bool) (parts : A → List B) where
  -- one passes in the part of a member
  pub any_flat : (xs : List A) (x : A) → IsOf x xs → list_any test (parts x) ≡ true → list_any test (flat_map parts xs) ≡ true
  any_flat [] x i h = absurd i
  any_flat (y ∷ xs) x i h = list_any-append test (parts y) (flat_map parts xs) ∙ elim i [
    | inl same ↦ or_left (list_any test (parts y)) (list_any test (flat_map parts xs)) (subst (λ z. list_any test (parts z) ≡ true) same h)
    | inr further ↦ or_right (list_any test (parts y)) (list_any test (flat_map parts xs)) (any_flat xs x further h)
  ]

  pub any_part : (xs : List A) → list_any test (flat_map parts xs) ≡ true → (x : A) × IsOf x xs × (list_any test (parts x) ≡ true)
  any_part [] h = absurd (true≢false (sym h))
  any_part (x ∷ xs) h = or_elim (list_any test (parts x)) (list_any test (flat_map parts xs)) (sym (list_any-append test (parts x) (flat_map parts xs)) ∙ h)
      (λ k. (x, inl refl, k))
      (λ k. let q = any_part xs k in (q.0, inr q.1, q.2))

-- the parts of functions one behind the other, where the first of the functions has the place `u`
module _ {B : Type 0} (test : B → Bool) (part : ℕ → TFunction → List B) (parts : ℕ → List TFunction → List B)
    (none : (u : ℕ) → parts u [] ≡ []) (one : (u : ℕ) (f : TFunction) (fs : List TFunction) → parts u (f ∷ fs) ≡ part u f ++ parts (u + 1) fs) where
  joined : (u : ℕ) (f : TFunction) (fs : List TFunction) → list_any test (parts u (f ∷ fs)) ≡ list_any test (part u f) || list_any test (parts (u + 1) fs)
  joined u f fs = ap (list_any test) (one u f fs) ∙ list_any-append test (part u f) (parts (u + 1) fs)

  any_from : (u j : ℕ) (fs : List TFunction) (f : TFunction) → slice_get fs j ≡ Some f → list_any test (part (u + j) f) ≡ true → list_any test (parts u fs) ≡ true
  any_from u j [] f at h = absurd (none-some f at)
  any_from u zero (g ∷ fs) f at h =
      let n : u + 0 ≡ u = omega arith in
      joined u g fs ∙ or_left (list_any test (part u g)) (list_any test (parts (u + 1) fs)) (ap (λ x. list_any test (part u x)) (same_Some g f at) ∙ (ap (λ m. list_any test (part m f)) (sym n) ∙ h))
  any_from u (suc j) (g ∷ fs) f at h =
      let n : u + 1 + j ≡ u + suc j = omega arith in
      joined u g fs ∙ or_right (list_any test (part u g)) (list_any test (parts (u + 1) fs)) (any_from (u + 1) j fs f at (ap (λ m. list_any test (part m f)) n ∙ h))

  part_from : (u : ℕ) (fs : List TFunction) → list_any test (parts u fs) ≡ true → (j : ℕ) × (f : TFunction) × (slice_get fs j ≡ Some f) × (list_any test (part (u + j) f) ≡ true)
  part_from u [] h = absurd (true≢false (sym (ap (list_any test) (sym (none u)) ∙ h)))
  part_from u (f ∷ fs) h = or_elim (list_any test (part u f)) (list_any test (parts (u + 1) fs)) (sym (joined u f fs) ∙ h)
      (λ k. let n : u ≡ u + 0 = omega arith in (zero, f, refl, ap (λ m. list_any test (part m f)) (sym n) ∙ k))
      (λ k.
      let q = part_from (u + 1) fs k in
      let n : u + suc q.0 ≡ u + 1 + q.0 = omega arith in
      (suc q.0, q.1, q.2, ap (λ m. list_any test (part m q.1)) n ∙ q.3))

  pub any_function : (fs : List TFunction) (j : ℕ) (f : TFunction) → slice_get fs j ≡ Some f → list_any test (part j f) ≡ true → list_any test (parts 0 fs) ≡ true
  any_function fs j f at h = let n : 0 + j ≡ j = omega arith in any_from 0 j fs f at (ap (λ m. list_any test (part m f)) n ∙ h)

  pub function_part : (fs : List TFunction) → list_any test (parts 0 fs) ≡ true → (j : ℕ) × (f : TFunction) × (slice_get fs j ≡ Some f) × (list_any test (part j f) ≡ true)
  function_part fs h = let q = part_from 0 fs h in let n : q.0 ≡ 0 + q.0 = omega arith in (q.0, q.1, q.2, ap (λ m. list_any test (part m q.1)) n ∙ q.3)
