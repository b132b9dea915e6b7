-- Statements are found by their numbers.
use Rattle.std.proofs.Common.{◌≡◌, refl, sym, ap, ◌∙◌, subst, ℕ, zero, suc, ◌+◌, ◌-◌, ◌<◌, ◌≤◌, arith, Bool, true, false, ◌==◌, List, [], ◌∷◌, ◌++◌, map, length, slice_get}
use Rattle.std.proofs.Common.{slice_index_or, nat_lt, Bor, Option, Some, None, cond}
use Rattle.std.specs.List.{find}
use Rattle.std.specs.Option.{option_map, is_some, IfSome}
use Rattle.std.proofs.lemmas.Option.{slice_get-map, slice_get_past, slice_get-get_or}
use Rattle.std.proofs.Math.ListN.{get_or}
use Rattle.std.proofs.lemmas.Bool.{eqb-true}
use Rattle.std.proofs.lemmas.List.{length-map}
use Rattle.oc_tree.specs.Tree.{TFunction, TProgram}
use Rattle.oc_tree.specs.Numbers.{numbers_on, program_statements}
use Rattle.oc_tree.specs.Places.{Placed, program_placed, placed}
use Rattle.oc_tree.proofs.Grouped.{program_ids}
use Rattle.oc_effects.specs.Effects.{TEffect, effect_of, function_effects, is_numbered}
use Rattle.oc_effects.specs.declared.effect.Effect.{Effect}
use Rattle.oc_effects.specs.View.{effect_view, effect_seen}
use Rattle.oc_effects.specs.Flat.{all_effects}
use Rattle.oc_effects.proofs.FlatLaws.{all_placed}

-- the numbers of effects
abbrev pub numbers : List TEffect → List ℕ
numbers es = map (λ e. e.stmt) es

-- they have the numbers from the first on
abbrev pub Consecutive : (first : ℕ) → List TEffect → Type 0
Consecutive first es = numbers es ≡ numbers_on first (length es)

test_is : (a b : ℕ) (t : Bool) → (a == b) ≡ t → {X : Type 0} (x y : Option X) → cond (a == b) x y ≡ cond t x y
test_is a b t h x y = ap (λ t. cond t x y) h

-- a lower number is not there
pub none_lower : (s first : ℕ) (es : List TEffect) → Consecutive first es → s < first → find (is_numbered s) es ≡ None
none_lower s first [] h l = refl
none_lower s first (e ∷ es) h l =
    let head : e.stmt ≡ first = cc in
    let tail : Consecutive (suc first) es = cc in
    let test : (e.stmt == s) ≡ false = grind (arith, head, l) in
    test_is e.stmt s false test (Some e) (find (is_numbered s) es) ∙ none_lower s (suc first) es tail (omega (arith, l))

-- the effect with a number, by its place
pub found_at : (s first : ℕ) (es : List TEffect) → Consecutive first es → first ≤ s → find (is_numbered s) es ≡ slice_get es (s - first)
found_at s first [] h l = refl
found_at s first (e ∷ es) h l =
    let head : e.stmt ≡ first = cc in
    let tail : Consecutive (suc first) es = cc in by_test (e.stmt == s) refl head (found_at s (suc first) es tail)
  where
    by_test : (t : Bool) → (e.stmt == s) ≡ t → e.stmt ≡ first → (suc first ≤ s → find (is_numbered s) es ≡ slice_get es (s - suc first)) → find (is_numbered s) (e ∷ es)
        ≡ slice_get (e ∷ es) (s - first)
    by_test true is head rest =
        let same : s - first ≡ 0 = omega (arith, eqb-true e.stmt s is, head) in
        test_is e.stmt s true is (Some e) (find (is_numbered s) es) ∙ ap (slice_get (e ∷ es)) (sym same)
    by_test false is head rest =
        let more : suc first ≤ s = grind (arith, is, head, l) in
        let n : s - first ≡ suc (s - suc first) = omega (arith, more) in
        test_is e.stmt s false is (Some e) (find (is_numbered s) es) ∙ rest more ∙ ap (slice_get (e ∷ es)) (sym n)

-- what `get` gives is the effect at a place
pub got_is : (es : List Effect) (i : ℕ) (r : Option (Bor Effect)) → is_some r ≡ nat_lt i (length es) → IfSome r (λ x. x.now ≡ get_or es i x.now) → effect_seen r ≡ slice_get (map effect_view es) i
got_is es i None few _ =
    let past : length es ≤ i = grind (arith, few) in
    sym (slice_get_past (map effect_view es) i (omega (arith, past, length-map es effect_view)))
got_is es i (Some x) few is =
    let below : i < length es = grind (arith, few) in
    ap (λ e. Some (effect_view e)) is ∙ sym (slice_get-map effect_view es i ∙ ap (option_map effect_view) (slice_get-get_or es i x.now below))

-- ---- parts of consecutive ones

pub numbers_split : (first : ℕ) (xs ys : List TEffect) → Consecutive first (xs ++ ys) → Consecutive first xs × Consecutive (first + length xs) ys
numbers_split first [] ys h = let e : first ≡ first + 0 = omega arith in (refl, subst (λ n. Consecutive n ys) e h)
numbers_split first (x ∷ xs) ys h =
    let head : x.stmt ≡ first = cc in
    let tail : Consecutive (suc first) (xs ++ ys) = cc in
    let parts = numbers_split (suc first) xs ys tail in
    let own : Consecutive first (x ∷ xs) = (let e = parts.0 in cc) in
    let e : suc first + length xs ≡ first + suc (length xs) = omega arith in (own, subst (λ n. Consecutive n ys) e parts.1)

module _ (p : TProgram) where
  -- the statements of a function have the numbers from one on
  pub function_numbered : (first : ℕ) (fs : List TFunction) (i : ℕ) → Consecutive first (all_effects p fs) → i < length fs → (n : ℕ) × Consecutive n (get_or (map (function_effects p) fs) i [])
  function_numbered first [] i h l = absurd (omega (arith, l))
  function_numbered first (f ∷ fs) zero h l = (first, (numbers_split first (function_effects p f) (all_effects p fs) h).0)
  function_numbered first (f ∷ fs) (suc i) h l = function_numbered (first + length (function_effects p f)) fs i (numbers_split first (function_effects p f) (all_effects p fs) h).1 (omega (arith, l))

  numbers_placed : (qs : List Placed) → numbers (map (effect_of p) qs) ≡ map (λ a. a.id) qs
  numbers_placed [] = refl
  numbers_placed (a ∷ qs) = ap (λ ns. a.id ∷ ns) (numbers_placed qs)

  -- all statements are numbered from 1
  pub all_numbered : program_statements p ≡ numbers_on 1 (length (program_statements p)) → Consecutive 1 (all_effects p p.functions)
  all_numbered h =
      let same : numbers (all_effects p p.functions) ≡ program_statements p = ap numbers (all_placed p p.functions) ∙ numbers_placed (program_placed p) ∙ program_ids p in
      let long : length (program_statements p) ≡ length (all_effects p p.functions) = omega (arith, ap length same, length-map (all_effects p p.functions) (λ e. e.stmt)) in
      same ∙ h ∙ ap (numbers_on 1) long

  find_placed : (s : ℕ) (qs : List Placed) → find (is_numbered s) (map (effect_of p) qs) ≡ option_map (effect_of p) (find (λ a. a.id == s) qs)
  find_placed s [] = refl
  find_placed s (a ∷ qs) = by_test (a.id == s) refl (find_placed s qs)
    where
      by_test : (t : Bool) → (a.id == s) ≡ t → find (is_numbered s) (map (effect_of p) qs) ≡ option_map (effect_of p) (find (λ a. a.id == s) qs)
          → cond (a.id == s) (Some (effect_of p a)) (find (is_numbered s) (map (effect_of p) qs)) ≡ option_map (effect_of p) (cond (a.id == s) (Some a) (find (λ a. a.id == s) qs))
      by_test true is rest = ap (λ t. cond t (Some (effect_of p a)) (find (is_numbered s) (map (effect_of p) qs))) is
          ∙ sym (ap (λ t. option_map (effect_of p) (cond t (Some a) (find (λ a. a.id == s) qs))) is)
      by_test false is rest = ap (λ t. cond t (Some (effect_of p a)) (find (is_numbered s) (map (effect_of p) qs))) is ∙ rest
          ∙ sym (ap (λ t. option_map (effect_of p) (cond t (Some a) (find (λ a. a.id == s) qs))) is)

  -- the effect of a statement is that with its number
  pub placed_is : (s : ℕ) → find (is_numbered s) (all_effects p p.functions) ≡ option_map (effect_of p) (placed p s)
  placed_is s = ap (find (is_numbered s)) (all_placed p p.functions) ∙ find_placed s (program_placed p)

-- the number of the first is where the numbers begin
pub first_is : (es : List Effect) (e : Effect) (all : List TEffect) (n : ℕ) → map effect_view es ≡ all → Consecutive n all → Consecutive (slice_index_or es 0 e).stmt all
first_is [] e all n same h = subst (λ l. Consecutive e.stmt l) same refl
first_is (x ∷ es) e all n same h =
    let own : Consecutive n (effect_view x ∷ map effect_view es) = subst (λ l. Consecutive n l) (sym same) h in
    let first : n ≡ x.stmt = cc in
    subst (λ m. Consecutive m all) first h
