-- No two statements have the same number.
use Rattle.std.proofs.Common.{◌≡◌, refl, sym, ap, ◌∙◌, ℕ, zero, suc, ◌≤◌, arith, Bool, true, false, nat_eq, inl, inr, List, [], ◌∷◌, ◌++◌, map, length, Some, cond}
use Rattle.std.specs.Prelude.{◌&&◌, ◌||◌, flat_map}
use Rattle.std.specs.List.{list_any, find}
use Rattle.std.proofs.Math.ListN.{get_or}
use Rattle.std.proofs.lemmas.Bool.{eqb-true, eq-eqb}
use Rattle.std.proofs.lemmas.List.{map-append}
use Rattle.oc_tree.specs.Tree.{TFunction, TProgram}
use Rattle.oc_tree.specs.declared.tree.VarId.{VarId}
use Rattle.oc_tree.specs.Numbers.{numbers_on, program_statements}
use Rattle.oc_tree.specs.Places.{Placed, block_placed, at_start}
use Rattle.oc_tree.specs.Checked.{Group, IsChecked}
use Rattle.oc_tree.proofs.Grouped.{ids, program_ids}
use Rattle.oc_effects.specs.Effects.{TEffect, effect_of, function_effects, effects, effects_at, is_numbered}
use Rattle.oc_tree.specs.Members.{IsOf}
use Rattle.oc_flow.specs.Flow.{brings, brings_at}
use Rattle.oc_needs.specs.Code.{found_is}
use Rattle.oc_needs.proofs.Tests.{any_flat_map, or_same}

abbrev pub numbers : List TEffect → List ℕ
numbers es = map (λ a. a.stmt) es

abbrev pub Apart : List TEffect → Type 0
Apart [] = Unit {0}
Apart (a ∷ es) = ((b : TEffect) → IsOf b es → a.stmt ≡ b.stmt → ⊥) × Apart es

-- ---- numbers in source order are apart

abbrev tail_of : List ℕ → List ℕ
tail_of [] = []
tail_of (n ∷ ns) = ns

abbrev head_of : List ℕ → ℕ
head_of [] = 0
head_of (n ∷ ns) = n

cons_tail : (m n : ℕ) (ms ns : List ℕ) → m ∷ ms ≡ n ∷ ns → ms ≡ ns
cons_tail m n ms ns e = ap tail_of e

cons_head : (m n : ℕ) (ms ns : List ℕ) → m ∷ ms ≡ n ∷ ns → m ≡ n
cons_head m n ms ns e = ap head_of e

above : (es : List TEffect) (k n : ℕ) (b : TEffect) → numbers es ≡ numbers_on k n → IsOf b es → k ≤ b.stmt
above [] k n b e h = absurd h
above (a ∷ es) k zero b e h = absurd (grind (arith, e))
above (a ∷ es) k (suc n) b e (inl i) =
    let first : a.stmt ≡ k = cons_head a.stmt k (numbers es) (numbers_on (suc k) n) e in
    let same : b.stmt ≡ a.stmt = ap (λ x. x.stmt) i in omega (arith, first, same)
above (a ∷ es) k (suc n) b e (inr h) =
    let more : suc k ≤ b.stmt = above es (suc k) n b (cons_tail a.stmt k (numbers es) (numbers_on (suc k) n) e) h in omega (arith, more)

apart_numbers : (es : List TEffect) (k n : ℕ) → numbers es ≡ numbers_on k n → Apart es
apart_numbers [] k n e = tt
apart_numbers (a ∷ es) k zero e = absurd (grind (arith, e))
apart_numbers (a ∷ es) k (suc n) e =
    let first : a.stmt ≡ k = cons_head a.stmt k (numbers es) (numbers_on (suc k) n) e in
    let rest = cons_tail a.stmt k (numbers es) (numbers_on (suc k) n) e in
    (λ b h i. let more : suc k ≤ b.stmt = above es (suc k) n b rest h in absurd (omega (arith, first, more, i)), apart_numbers es (suc k) n rest)

-- ---- all effects

abbrev pub joined : List (List TEffect) → List TEffect
joined ess = flat_map (λ es. es) ess

placed_numbers : (p : TProgram) (qs : List Placed) → numbers (map (effect_of p) qs) ≡ ids qs
placed_numbers p [] = refl
placed_numbers p (a ∷ rest) = ap (λ ns. a.id ∷ ns) (placed_numbers p rest)

functions_numbers : (p : TProgram) (fs : List TFunction) → numbers (joined (map (function_effects p) fs)) ≡ ids (flat_map (λ f. block_placed (at_start f) f.body) fs)
functions_numbers p [] = refl
functions_numbers p (f ∷ fs) =
    map-append (λ a. a.stmt) (function_effects p f) (joined (map (function_effects p) fs))
    ∙ (ap (λ ns. ns ++ numbers (joined (map (function_effects p) fs))) (placed_numbers p (block_placed (at_start f) f.body))
    ∙ (ap (λ ns. ids (block_placed (at_start f) f.body) ++ ns) (functions_numbers p fs)
    ∙ sym (map-append (λ a. a.id) (block_placed (at_start f) f.body) (flat_map (λ g. block_placed (at_start g) g.body) fs))))

pub all_apart : (p : TProgram) (groups : List Group) → IsChecked p groups → Apart (joined (effects p))
all_apart p groups c = apart_numbers (joined (effects p)) 1 (length (program_statements p)) (functions_numbers p p.functions ∙ (program_ids p ∙ c.form.numbered.statements))

-- ---- those of one function

in_front : (a : TEffect) (xs ys : List TEffect) → IsOf a xs → IsOf a (xs ++ ys)
in_front a [] ys h = absurd h
in_front a (x ∷ xs) ys (inl e) = inl e
in_front a (x ∷ xs) ys (inr h) = inr (in_front a xs ys h)

in_back : (a : TEffect) (xs ys : List TEffect) → IsOf a ys → IsOf a (xs ++ ys)
in_back a [] ys h = h
in_back a (x ∷ xs) ys h = inr (in_back a xs ys h)

front_apart : (xs ys : List TEffect) → Apart (xs ++ ys) → Apart xs
front_apart [] ys h = tt
front_apart (x ∷ xs) ys h = (λ b o e. h.0 b (in_front b xs ys o) e, front_apart xs ys h.1)

back_apart : (xs ys : List TEffect) → Apart (xs ++ ys) → Apart ys
back_apart [] ys h = h
back_apart (x ∷ xs) ys h = back_apart xs ys h.1

part_apart : (ess : List (List TEffect)) (f : ℕ) → Apart (joined ess) → Apart (get_or ess f [])
part_apart [] f h = tt
part_apart (es ∷ ess) zero h = front_apart es (joined ess) h
part_apart (es ∷ ess) (suc f) h = part_apart ess f (back_apart es (joined ess) h)

part_in : (ess : List (List TEffect)) (f : ℕ) (a : TEffect) → IsOf a (get_or ess f []) → IsOf a (joined ess)
part_in [] f a h = h
part_in (es ∷ ess) zero a h = in_front a es (joined ess) h
part_in (es ∷ ess) (suc f) a h = in_back a es (joined ess) (part_in ess f a h)

-- ---- what is asked of the statement of a number

test_no : (Q : TEffect → Bool) (s : ℕ) (b : TEffect) → (b.stmt ≡ s → ⊥) → nat_eq b.stmt s && Q b ≡ false
test_no Q s b h = by_test (nat_eq b.stmt s) refl
  where
    by_test : (t : Bool) → nat_eq b.stmt s ≡ t → t && Q b ≡ false
    by_test true e = absurd (h (eqb-true b.stmt s e))
    by_test false e = refl

none_numbered : (Q : TEffect → Bool) (s : ℕ) (es : List TEffect) → ((b : TEffect) → IsOf b es → s ≡ b.stmt → ⊥) → list_any (λ a. is_numbered s a && Q a) es ≡ false
none_numbered Q s [] h = refl
none_numbered Q s (a ∷ es) h =
    or_same (is_numbered s a && Q a) false (list_any (λ b. is_numbered s b && Q b) es) false (test_no Q s a (λ e. h a (inl refl) (sym e))) (none_numbered Q s es (λ b o. h b (inr o)))

or_nothing : (a b : Bool) → b ≡ false → a || b ≡ a
or_nothing true b e = refl
or_nothing false b e = e

pub any_find : (Q : TEffect → Bool) (s : ℕ) (es : List TEffect) → Apart es → list_any (λ a. is_numbered s a && Q a) es ≡ found_is Q (find (is_numbered s) es)
any_find Q s [] h = refl
any_find Q s (a ∷ es) h = by_test (nat_eq a.stmt s) refl (any_find Q s es h.1)
  where
    by_test : (t : Bool) → nat_eq a.stmt s ≡ t → list_any (λ b. is_numbered s b && Q b) es ≡ found_is Q (find (is_numbered s) es)
        → (t && Q a) || list_any (λ b. is_numbered s b && Q b) es ≡ found_is Q (cond t (Some a) (find (is_numbered s) es))
    by_test true e i = or_nothing (Q a) (list_any (λ b. is_numbered s b && Q b) es) (none_numbered Q s es (λ b o j. h.0 b o (eqb-true a.stmt s e ∙ j)))
    by_test false e i = i

-- a statement is asked by its own number
any_own : (Q : TEffect → Bool) (a : TEffect) (es : List TEffect) → Apart es → IsOf a es → list_any (λ b. is_numbered a.stmt b && Q b) es ≡ Q a
any_own Q a [] h o = absurd o
any_own Q a (b ∷ es) h (inl e) =
    let same : nat_eq b.stmt a.stmt ≡ true = eq-eqb b.stmt a.stmt (ap (λ x. x.stmt) (sym e)) in
    or_nothing (nat_eq b.stmt a.stmt && Q b) (list_any (λ x. is_numbered a.stmt x && Q x) es) (none_numbered Q a.stmt es (λ x o j. h.0 x o (ap (λ y. y.stmt) (sym e) ∙ j)))
    ∙ (ap (λ t. t && Q b) same ∙ ap Q (sym e))
any_own Q a (b ∷ es) h (inr o) =
    or_same (nat_eq b.stmt a.stmt && Q b) false (list_any (λ x. is_numbered a.stmt x && Q x) es) (Q a) (test_no Q a.stmt b (λ e. h.0 a o e)) (any_own Q a es h.1 o)

module _ (p : TProgram) (groups : List Group) (c : IsChecked p groups) where
  pub apart_at : (f : ℕ) → Apart (effects_at p f)
  apart_at f = part_apart (effects p) f (all_apart p groups c)

  pub brings_own : (f : ℕ) (a : TEffect) (v : VarId) → IsOf a (effects_at p f) → brings_at p a.stmt v ≡ brings p a v
  brings_own f a v o =
      sym (any_flat_map (λ b. nat_eq b.stmt a.stmt && brings p b v) (λ es. es) (effects p)) ∙ any_own (λ b. brings p b v) a (joined (effects p)) (all_apart p groups c) (part_in (effects p) f a o)
