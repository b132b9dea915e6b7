-- Where a pull stands in a list of pulls, or a variable in a scope.
use Rattle.std.proofs.Common.{◌≡◌, ℕ, ◌+◌, Bool, true, false, List, [], ◌∷◌, ◌++◌, length, ◌⊎◌, inl, inr, Option, Some, None, cond, refl, ap, sym, subst, ◌∙◌, arith}
use Rattle.std.specs.Str.{bytes_eq}
use Rattle.oc_tree.specs.Names.{Text}
use Rattle.oc_tree.specs.Tree.{TRight, TProgram}
use Rattle.oc_tree.specs.declared.tree.Scalar.{Scalar}
use Rattle.oc_tree.specs.declared.scope.Var.{Var}
use Rattle.oc_tree.specs.Scope.{Scope, variable_in}
use Rattle.oc_tree.specs.Expansion.{temporary}
use Rattle.oc_desugar.proofs.Seen.{Sees, IsHeld, pull_type, HeldPulls}
use Rattle.oc_desugar.proofs.KeptLookups.{apart, same_text}

-- ---- lists

-- nothing stands in the empty list
pub no_place : (front back : List TRight) (r : TRight) → [] ≡ front ++ r ∷ back → ⊥
no_place [] back r e = cc
no_place (x ∷ front) back r e = cc

-- where one stands in a list of one
pub only_place : (y : TRight) (front back : List TRight) (r : TRight) → y ∷ [] ≡ front ++ r ∷ back → (front ≡ []) × (y ≡ r)
only_place y [] back r e = let same : y ≡ r = cc in (refl, same)
only_place y (x ∷ front) back r e = let rest : [] ≡ front ++ r ∷ back = cc in absurd (no_place front back r rest)

-- what stands in two lists, one after the other, stands in the first or in the second
abbrev pub InFirst : (xs front : List TRight) → TRight → Type 0
InFirst xs front r = (back : List TRight) × (xs ≡ front ++ r ∷ back)

abbrev pub InSecond : (xs ys front back : List TRight) → TRight → Type 0
InSecond xs ys front back r = (between : List TRight) × (front ≡ xs ++ between) × (ys ≡ between ++ r ∷ back)

pub first_or_second : (xs ys front back : List TRight) (r : TRight) → xs ++ ys ≡ front ++ r ∷ back → InFirst xs front r ⊎ InSecond xs ys front back r
first_or_second [] ys front back r e = inr (front, refl, e)
first_or_second (x ∷ xs) ys [] back r e = let same : x ≡ r = cc in inl (xs, ap (λ y. y ∷ xs) same)
first_or_second (x ∷ xs) ys (y ∷ front) back r e =
    let rest : xs ++ ys ≡ front ++ r ∷ back = cc in
    let same : x ≡ y = cc in
    elim (first_or_second xs ys front back r rest) [
      | inl a ↦ inl (a.0, ap (λ z. z ∷ xs) same ∙ ap (λ l. y ∷ l) a.1)
      | inr b ↦ inr (b.0, ap (λ z. z ∷ front) (sym same) ∙ ap (λ l. x ∷ l) b.1, b.2)
    ]

-- ---- scopes

-- what stands in a scope stands there with more behind it
found_more : (s more : Scope) (x : Text) (v : Var) → variable_in s x ≡ Some v → variable_in (s ++ more) x ≡ Some v
found_more [] more x v e = let none : None ≡ Some v = e in absurd (cc)
found_more (w ∷ ws) more x v e = by (bytes_eq x w.0) (found_more ws more x v) e
  where
    by : (b : Bool) → (variable_in ws x ≡ Some v → variable_in (ws ++ more) x ≡ Some v) → cond b (Some w.1) (variable_in ws x) ≡ Some v → cond b (Some w.1) (variable_in (ws ++ more) x) ≡ Some v
    by true rest h = h
    by false rest h = rest h

-- one more variable is found where no other has its name
pub found_last : (s : Scope) (x : Text) (v : Var) → variable_in s x ≡ None → variable_in (s ++ (x, v) ∷ []) x ≡ Some v
found_last [] x v e = ap (λ b. cond b (Some v) None) (same_text x)
found_last (w ∷ ws) x v e = by (bytes_eq x w.0) (found_last ws x v) e
  where
    by : (b : Bool) → (variable_in ws x ≡ None → variable_in (ws ++ (x, v) ∷ []) x ≡ Some v) → cond b (Some w.1) (variable_in ws x) ≡ None
        → cond b (Some w.1) (variable_in (ws ++ (x, v) ∷ []) x) ≡ Some v
    by true rest h = let some : Some w.1 ≡ None = h in absurd (cc)
    by false rest h = rest h

-- it changes nothing for other names
pub found_before : (s : Scope) (x y : Text) (v : Var) → bytes_eq x y ≡ false → variable_in (s ++ (y, v) ∷ []) x ≡ variable_in s x
found_before [] x y v e = ap (λ b. cond b (Some v) None) e
found_before (w ∷ ws) x y v e = ap (cond (bytes_eq x w.0) (Some w.1)) (found_before ws x y v e)

-- ---- temporaries

-- a temporary more hides no name of the language
pub sees_more : (f : ℕ → ℕ) (s t : Scope) (k : ℕ) (v : Var) → Sees f s t → Sees f s (t ++ (temporary k, v) ∷ [])
sees_more f s t k v sees x n = found_before t x (temporary k) v (apart x n k) ∙ sees x n

-- what is held is held with more behind it
held_more : (t more : Scope) (k : ℕ) (type : Option Scalar) → IsHeld t k type → IsHeld (t ++ more) k type
held_more t more k type h = record { var = h.var; visible = found_more t more (temporary k) h.var h.visible; own = h.own; typed = h.typed; some = h.some }

pub pulls_held_more : (p : TProgram) (t more : Scope) (k : ℕ) (rs : List TRight) → HeldPulls p t k rs → HeldPulls p (t ++ more) k rs
pulls_held_more p t more k [] h = tt
pulls_held_more p t more k (r ∷ rs) h = (held_more t more k (pull_type p r) h.0, pulls_held_more p t more (k + 1) rs h.1)

-- one more pull is held
pub held_one_more : (p : TProgram) (t : Scope) (k : ℕ) (rs : List TRight) (r : TRight) → HeldPulls p t k rs → IsHeld t (k + length rs) (pull_type p r) → HeldPulls p t k (rs ++ r ∷ [])
held_one_more p t k [] r h o = let e : k + 0 ≡ k = omega arith in (subst (λ j. IsHeld t j (pull_type p r)) e o, tt)
held_one_more p t k (x ∷ rs) r h o =
    let e : k + length (x ∷ rs) ≡ k + 1 + length rs = omega arith in
    (h.0, held_one_more p t (k + 1) rs r h.1 (subst (λ j. IsHeld t j (pull_type p r)) e o))
