-- Each function stands at the place of its name, and one of them is `main`, without parameters and without a result.
use Rattle.std.proofs.Common.{◌≡◌, ◌≤◌, ℕ, zero, suc, ◌+◌, Bool, true, false, true≢false, ◌||◌, List, [], ◌∷◌, length, count_by, Option, Some, None, cond, refl, ap, sym, subst, ◌∙◌, arith}
use Rattle.std.specs.Prelude.{slice_get, nat_lt, is_some, not, codes, ◌&&◌}
use Rattle.std.specs.List.{list_any}
use Rattle.std.specs.Str.{bytes_eq}
use Rattle.std.proofs.lemmas.Bool.{ltb-false}
use Rattle.std.proofs.lemmas.Slice.Eq.{bytes_eq-Decides}
use Rattle.std.proofs.lemmas.Option.{none-some, same_Some, slice_get_within}
use Rattle.std.proofs.lemmas.List.{nil_from_length}
use Rattle.std.proofs.lemmas.List.Sums.{sum_by-cons}
use Rattle.oc_tree.specs.Names.{Text}
use Rattle.oc_tree.specs.Tree.{TFunction, TProgram}
use Rattle.oc_tree.specs.declared.tree.Scalar.{Scalar}
use Rattle.oc_tree.specs.Calls.{place_from, function_place, function_names}
use Rattle.oc_tree.specs.Rules.{is_main, stands_before}
use Rattle.oc_checked.proofs.Called.{Called, name_called}
use Rattle.oc_checked.proofs.Declared.{HeadFine, AllWithin}

-- ---- the place of a function's name

-- the name of a function is found there, or before it
abbrev FoundBefore : ℕ → List TFunction → Text → ℕ → Type 0
FoundBefore n fs x i = (j : ℕ) × (place_from n (function_names fs) x ≡ Some (n + j)) × (j ≤ i)

-- each name of a list of functions is found so
found_before : (n : ℕ) (fs : List TFunction) (i : ℕ) (f : TFunction) → slice_get fs i ≡ Some f → FoundBefore n fs f.name i
found_before n [] i f e = absurd (none-some f e)
found_before n (g ∷ fs) zero f e =
    let same : f.name ≡ g.name = ap (λ h. h.name) (sym (same_Some g f e)) in
    let is : bytes_eq f.name g.name ≡ true = (bytes_eq-Decides f.name g.name).1 same in
    let here : n ≡ n + 0 = omega arith in
    (0, ap (λ b. cond b (Some n) (place_from (n + 1) (function_names fs) f.name)) is ∙ ap Some here, omega arith)
found_before n (g ∷ fs) (suc i) f e = go (bytes_eq f.name g.name) refl (found_before (n + 1) fs i f e)
  where
    go : (b : Bool) → bytes_eq f.name g.name ≡ b → FoundBefore (n + 1) fs f.name i → FoundBefore n (g ∷ fs) f.name (suc i)
    go true is later = let here : n ≡ n + 0 = omega arith in (0, ap (λ b. cond b (Some n) (place_from (n + 1) (function_names fs) f.name)) is ∙ ap Some here, omega arith)
    go false is later = let next : n + 1 + later.0 ≡ n + suc later.0 = omega arith in
        (suc later.0, ap (λ b. cond b (Some n) (place_from (n + 1) (function_names fs) f.name)) is ∙ later.1 ∙ ap Some next, omega (arith, later.2))

module _ (p : TProgram) (within : AllWithin p) where
  -- what the rules say of a function's head
  pub head_fine : (i : ℕ) (f : TFunction) → slice_get p.functions i ≡ Some f → HeadFine p i f
  head_fine i f e = within.within.heads i f (omega (arith, slice_get_within p.functions i f e, within.functions)) e

  -- each function stands at the place of its name
  pub own_place : (i : ℕ) (f : TFunction) → slice_get p.functions i ≡ Some f → function_place p.functions f.name ≡ Some i
  own_place i f e =
      let found = found_before 0 p.functions i f e in
      let at : 0 + found.0 ≡ found.0 = omega arith in
      let is : function_place p.functions f.name ≡ Some found.0 = found.1 ∙ ap Some at in
      let new : nat_lt found.0 i ≡ false = ap (λ o. stands_before o i) (sym is) ∙ (head_fine i f e).new in
      let same : found.0 ≡ i = omega (arith, found.2, ltb-false found.0 i new) in
      is ∙ ap Some same

  -- ---- `main`

  -- `main` is what such a function is called
  spelled_main : (x : Text) → is_main x ≡ true → bytes_eq (codes "main") x ≡ true
  spelled_main x h = (bytes_eq-Decides (codes "main") x).1 (sym ((bytes_eq-Decides x (codes "main")).0 h))

  -- a function called `main` is found by its name
  there : (n : ℕ) (fs : List TFunction) → list_any (λ f. is_main f.name) fs ≡ true → is_some (place_from n (function_names fs) (codes "main")) ≡ true
  there n [] h = absurd (true≢false (sym h))
  there n (f ∷ fs) h = go (bytes_eq (codes "main") f.name) (is_main f.name) (spelled_main f.name) h (there (n + 1) fs)
    where
      go : (b c : Bool) → (c ≡ true → b ≡ true) → c || list_any (λ f. is_main f.name) fs ≡ true
          → (list_any (λ f. is_main f.name) fs ≡ true → is_some (place_from (n + 1) (function_names fs) (codes "main")) ≡ true)
          → is_some (cond b (Some n) (place_from (n + 1) (function_names fs) (codes "main"))) ≡ true
      go true c e h rest = refl
      go false false e h rest = rest h
      go false true e h rest = absurd (true≢false (sym (e refl)))

  -- what isn't missing is there
  not_missing : (b : Bool) → not b ≡ false → b ≡ true
  not_missing true h = refl
  not_missing false h = absurd (true≢false h)

  -- `main` and its place
  pub main_called : Called p (codes "main")
  main_called = name_called p (codes "main") (there 0 p.functions (not_missing (list_any (λ f. is_main f.name) p.functions) within.main_there))

  -- what a function called `main` has
  both_none : (b c d : Bool) → b && (c || d) ≡ false → b ≡ true → (c ≡ false) × (d ≡ false)
  both_none true false false h e = (refl, refl)
  both_none true false true h e = absurd (true≢false h)
  both_none true true d h e = absurd (true≢false h)
  both_none false c d h e = absurd (true≢false (sym e))

  -- nothing is there
  is_none : (o : Option Scalar) → is_some o ≡ false → o ≡ None
  is_none None h = refl
  is_none (Some t) h = absurd (true≢false h)

  -- it is called so
  named_main : is_main main_called.callee.name ≡ true
  named_main = (bytes_eq-Decides main_called.callee.name (codes "main")).1 (sym main_called.same)

  -- it has neither parameters nor a result
  bare : (nat_lt 0 (length main_called.callee.params) ≡ false) × (is_some main_called.callee.result ≡ false)
  bare = both_none (is_main main_called.callee.name) (nat_lt 0 (length main_called.callee.params)) (is_some main_called.callee.result)
      (head_fine main_called.number main_called.callee main_called.stands).main named_main

  -- it has no parameters
  pub main_takes_none : main_called.callee.params ≡ []
  main_takes_none = let few : length main_called.callee.params ≤ 0 = ltb-false 0 (length main_called.callee.params) bare.0 in nil_from_length main_called.callee.params (omega (arith, few))

  -- it has no result
  pub main_gives_none : main_called.callee.result ≡ None
  main_gives_none = is_none main_called.callee.result bare.1

  -- ---- no other function is called so

  -- the functions called `main`, with one function more
  counted_more : (f : TFunction) (fs : List TFunction) → count_by (λ g. is_main g.name) (f ∷ fs) ≡ cond {A = ℕ} (is_main f.name) 1 0 + count_by (λ g. is_main g.name) fs
  counted_more f fs = sum_by-cons (λ g. cond {A = ℕ} (is_main g.name) 1 0) f fs

  -- where none is called so, their number is 0
  count_none : (fs : List TFunction) → ((i : ℕ) (f : TFunction) → slice_get fs i ≡ Some f → is_main f.name ≡ false) → count_by (λ f. is_main f.name) fs ≡ 0
  count_none [] h = refl
  count_none (f ∷ fs) h =
      let own : cond {A = ℕ} (is_main f.name) 1 0 ≡ 0 = ap (λ b. cond {A = ℕ} b 1 0) (h 0 f refl) in
      omega (arith, counted_more f fs, own, count_none fs (λ i g e. h (suc i) g e))

  -- what can't hold doesn't
  not_so : (b : Bool) → (b ≡ true → ⊥) → b ≡ false
  not_so false h = refl
  not_so true h = absurd (h refl)

  -- where all of them stand at one place, their number is 1
  count_one : (fs : List TFunction) (m : ℕ) (g : TFunction) → slice_get fs m ≡ Some g → is_main g.name ≡ true
      → ((i : ℕ) (f : TFunction) → slice_get fs i ≡ Some f → is_main f.name ≡ true → i ≡ m) → count_by (λ f. is_main f.name) fs ≡ 1
  count_one [] m g e is only = absurd (none-some g e)
  count_one (f ∷ fs) zero g e is only =
      let own : is_main f.name ≡ true = subst (λ h. is_main h.name ≡ true) (sym (same_Some f g e)) is in
      let one : cond {A = ℕ} (is_main f.name) 1 0 ≡ 1 = ap (λ b. cond {A = ℕ} b 1 0) own in
      let others = count_none fs (λ i h at. not_so (is_main h.name) (λ so. let bad : suc i ≡ 0 = only (suc i) h at so in omega (arith, bad))) in
      omega (arith, counted_more f fs, one, others)
  count_one (f ∷ fs) (suc m) g e is only =
      let own : is_main f.name ≡ false = not_so (is_main f.name) (λ so. let bad : 0 ≡ suc m = only 0 f refl so in omega (arith, bad)) in
      let zero' : cond {A = ℕ} (is_main f.name) 1 0 ≡ 0 = ap (λ b. cond {A = ℕ} b 1 0) own in
      let others = count_one fs m g e is (λ i h at so. let same : suc i ≡ suc m = only (suc i) h at so in omega (arith, same)) in
      omega (arith, counted_more f fs, zero', others)

  -- just one function is called `main`
  pub main_alone : count_by (λ f. is_main f.name) p.functions ≡ 1
  main_alone = count_one p.functions main_called.number main_called.callee main_called.stands named_main
      (λ i f e so.
      let name : f.name ≡ codes "main" = (bytes_eq-Decides f.name (codes "main")).0 so in
      same_Some i main_called.number (sym (own_place i f e) ∙ ap (function_place p.functions) name ∙ main_called.placed))
