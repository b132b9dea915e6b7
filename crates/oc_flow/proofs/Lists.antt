-- Tests on lists and on variables.
use Rattle.std.proofs.Common.{◌≡◌, ◌<◌, inl, inr, ℕ, zero, suc, Bool, true, true≢false, List, [], ◌∷◌, length, Option, Some, None, refl, ap, sym, ◌∙◌, subst, arith}
use Rattle.std.specs.Prelude.{◌||◌, filter}
use Rattle.std.specs.List.{list_any}
use Rattle.std.proofs.Math.ListN.{get_or}
use Rattle.std.proofs.lemmas.Bool.{eqb-true, or_left, or_right, eq-eqb}
use Rattle.oc_tree.specs.declared.tree.VarId.{VarId}
use Rattle.oc_tree.specs.declared.tree.VarId.TheVariants.{Nv, Param, Declared, Returned}
use Rattle.oc_flow.specs.Variables.{same_variable, is_among, is_variable_of}
use Rattle.oc_tree.specs.Members.{IsOf}
use Rattle.oc_laws.proofs.Members.{any_of, of_filter}
pub use Rattle.oc_laws.proofs.Members.{any_of as in_any, image_of}

-- ---- lists

module _ {A : Type 0} (t : A → Bool) where
  pub any_in : (xs : List A) (x : A) → IsOf x xs → t x ≡ true → list_any t xs ≡ true
  any_in [] x i h = absurd i
  any_in (y ∷ ys) x (inl e) h = or_left (t y) (list_any t ys) (ap t (sym e) ∙ h)
  any_in (y ∷ ys) x (inr i) h = or_right (t y) (list_any t ys) (any_in ys x i h)

-- tests that are the same on all of a list
pub any_cong : {A : Type 0} (t s : A → Bool) (xs : List A) → ((x : A) → IsOf x xs → t x ≡ s x) → list_any t xs ≡ list_any s xs
any_cong t s [] h = refl
any_cong t s (x ∷ xs) h = λ i. h x (inl refl) i || any_cong t s xs (λ y m. h y (inr m)) i

-- what is in a row stands in a row that there is
pub row_within : {A : Type 0} (rows : List (List A)) (i : ℕ) (x : A) → IsOf x (get_or rows i []) → i < length rows
row_within [] i x h = absurd h
row_within (r ∷ rows) zero x h = omega arith
row_within (r ∷ rows) (suc i) x h = let l = row_within rows i x h in omega (arith, l)

-- what stays passes the test
pub of_kept : {A : Type 0} (t : A → Bool) (xs : List A) (x : A) → IsOf x (filter t xs) → IsOf x xs × (t x ≡ true)
of_kept t xs x i = of_filter t x xs i

-- ---- variables

pub same_is : (u v : VarId) → same_variable u v ≡ true → u ≡ v
same_is (Nv i) (Nv j) h = ap Nv (eqb-true i j h)
same_is (Param i) (Param j) h = ap Param (eqb-true i j h)
same_is (Declared s) (Declared t) h = ap Declared (eqb-true s t h)
same_is Returned Returned h = refl
same_is u v h = absurd (true≢false (sym h))

pub same_itself : (v : VarId) → same_variable v v ≡ true
same_itself (Nv i) = eq-eqb i i refl
same_itself (Param i) = eq-eqb i i refl
same_itself (Declared s) = eq-eqb s s refl
same_itself Returned = refl

pub among_of : (v : VarId) (vs : List VarId) → is_among v vs ≡ true → IsOf v vs
among_of v vs h = let z = any_of (same_variable v) vs h in subst (λ x. IsOf x vs) (sym (same_is v z.0 z.2)) z.1

pub of_among : (v : VarId) (vs : List VarId) → IsOf v vs → is_among v vs ≡ true
of_among v vs i = any_in (same_variable v) vs v i (same_itself v)

pub target_is : (o : Option VarId) (v : VarId) → is_variable_of o v ≡ true → o ≡ Some v
target_is None v h = absurd (true≢false (sym h))
target_is (Some w) v h = ap Some (same_is w v h)

pub is_target : (o : Option VarId) (v : VarId) → o ≡ Some v → is_variable_of o v ≡ true
is_target o v e = subst (λ x. is_variable_of x v ≡ true) (sym e) (same_itself v)
