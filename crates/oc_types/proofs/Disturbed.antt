-- What a call changes beside it, name by name.
use Rattle.std.proofs.Common.{◌≡◌, ◌≤◌, ◌+◌, ℕ, Bool, true, false, true≢false, cond, List, [], ◌∷◌, Option, Some, nat_eq, refl, ap, sym, ◌∙◌, arith}
use Rattle.std.specs.Prelude.{◌&&◌, ◌||◌, is_some}
use Rattle.std.specs.List.{list_any}
use Rattle.std.specs.Str.{bytes_eq}
use Rattle.std.proofs.lemmas.Bool.{eqb-true}
use Rattle.std.proofs.lemmas.Slice.Eq.{bytes_eq-Decides}
use Rattle.oc_tree.specs.Names.{Text}
use Rattle.oc_tree.specs.Tree.{TKind, TProgram}
use Rattle.oc_tree.specs.Calls.{place, place_from}
use Rattle.oc_tree.specs.Named.{own_names}
use Rattle.oc_tree.specs.Rules.{nv_disturbed}
use Rattle.oc_reach.specs.Marked.{is_in, add}
use Rattle.oc_reach.proofs.Lists.{in_add}
use Rattle.oc_types.specs.Quiet.{AreQuiet, callee_changes, is_changed}
use Rattle.oc_types.proofs.ShownLaws.{counted_any, place_has}

-- ---- a name in two lists

turned : (x y : Text) → bytes_eq y x ≡ bytes_eq x y
turned x y = by (bytes_eq y x) refl (bytes_eq x y) refl
  where
    by : (b : Bool) → bytes_eq y x ≡ b → (c : Bool) → bytes_eq x y ≡ c → b ≡ c
    by true e true f = refl
    by false e false f = refl
    by true e false f = sym ((bytes_eq-Decides x y).1 (sym ((bytes_eq-Decides y x).0 e))) ∙ f
    by false e true f = sym e ∙ (bytes_eq-Decides y x).1 (sym ((bytes_eq-Decides x y).0 f))

module _ (g : Text → Bool) where
  none_any : (ys : List Text) → list_any (λ y. false && g y) ys ≡ false
  none_any [] = refl
  none_any (y ∷ ys) = none_any ys

  either : (a b c p q : Bool) → ((a || b) && c) || (p || q) ≡ ((a && c) || p) || ((b && c) || q)
  either true b true p q = refl
  either true true false true q = refl
  either true true false false q = refl
  either true false false true q = refl
  either true false false false q = refl
  either false true true true q = refl
  either false true true false q = refl
  either false true false true q = refl
  either false true false false q = refl
  either false false c true q = refl
  either false false c false q = refl

  any_either : (f h : Text → Bool) (ys : List Text) → list_any (λ y. (f y || h y) && g y) ys ≡ list_any (λ y. f y && g y) ys || list_any (λ y. h y && g y) ys
  any_either f h [] = refl
  any_either f h (y ∷ ys) =
      ap (λ (b : Bool). ((f y || h y) && g y) || b) (any_either f h ys)
      ∙ either (f y) (h y) (g y) (list_any (λ z. f z && g z) ys) (list_any (λ z. h z && g z) ys)

  any_same : (x : Text) (ys : List Text) → list_any (λ y. bytes_eq y x && g y) ys ≡ list_any (bytes_eq x) ys && g x
  any_same x [] = refl
  any_same x (y ∷ ys) =
      ap (λ (b : Bool). (bytes_eq y x && g y) || b) (any_same x ys)
      ∙ ap (λ (b : Bool). (b && g y) || (list_any (bytes_eq x) ys && g x)) (turned x y)
      ∙ by (bytes_eq x y) refl
    where
      with : (c r : Bool) → c || (r && c) ≡ c
      with true r = refl
      with false true = refl
      with false false = refl

      by : (b : Bool) → bytes_eq x y ≡ b → (b && g y) || (list_any (bytes_eq x) ys && g x) ≡ (b || list_any (bytes_eq x) ys) && g x
      by true h = ap (λ (z : Text). g z || (list_any (bytes_eq x) ys && g x)) (sym ((bytes_eq-Decides x y).0 h)) ∙ with (g x) (list_any (bytes_eq x) ys)
      by false h = refl

  -- the names of one list that stand in another, and the other way round
  crossed : (xs ys : List Text) → list_any (λ x. list_any (bytes_eq x) ys && g x) xs ≡ list_any (λ y. list_any (bytes_eq y) xs && g y) ys
  crossed [] ys = sym (none_any ys)
  crossed (x ∷ xs) ys =
      ap (λ (b : Bool). (list_any (bytes_eq x) ys && g x) || b) (crossed xs ys)
      ∙ ap (λ (b : Bool). b || list_any (λ y. list_any (bytes_eq y) xs && g y) ys) (sym (any_same x ys))
      ∙ sym (any_either (λ y. bytes_eq y x) (λ y. list_any (bytes_eq y) xs) ys)

any_alike : (f h : Text → Bool) → ((x : Text) → f x ≡ h x) → (xs : List Text) → list_any f xs ≡ list_any h xs
any_alike f h e [] = refl
any_alike f h e (x ∷ xs) = ap (λ (b : Bool). b || list_any f xs) (e x) ∙ ap (λ (b : Bool). h x || b) (any_alike f h e xs)

-- a nonvolatile variable stands beside what changes it where one of a statement's names is that of one
pub disturbed_by_names : (p : TProgram) (k : TKind) → list_any (is_changed p k) (own_names k) ≡ list_any (nv_disturbed p k) p.names.nvs
disturbed_by_names p k =
    let g = callee_changes p k in
    let nvs = p.names.nvs in
    any_alike (is_changed p k) (λ y. list_any (bytes_eq y) nvs && g y) (λ y. ap (λ (b : Bool). b && g y) (place_has 0 nvs y)) (own_names k)
    ∙ sym (crossed g nvs (own_names k))
    ∙ any_alike (λ x. list_any (bytes_eq x) (own_names k) && g x) (nv_disturbed p k) (λ x. ap (λ (b : Bool). b && g x) (sym (counted_any (bytes_eq x) (own_names k)))) nvs

-- ---- numbers that were looked at

place_above : (n : ℕ) (xs : List Text) (x : Text) (i : ℕ) → place_from n xs x ≡ Some i → n ≤ i
place_above n [] x i h = absurd (cc)
place_above n (y ∷ ys) x i h = by (bytes_eq x y) h (place_above (n + 1) ys x i)
  where
    by : (b : Bool) → cond b (Some n) (place_from (n + 1) ys x) ≡ Some i → (place_from (n + 1) ys x ≡ Some i → n + 1 ≤ i) → n ≤ i
    by true e rest = let q : n ≡ i = cc in omega (arith, q)
    by false e rest = omega (arith, rest e)

-- names that have the same place are the same
same_place : (n : ℕ) (xs : List Text) (x y : Text) (i : ℕ) → place_from n xs x ≡ Some i → place_from n xs y ≡ Some i → x ≡ y
same_place n [] x y i h g = absurd (cc)
same_place n (z ∷ zs) x y i h g = by (bytes_eq x z) refl (bytes_eq y z) refl h g (same_place (n + 1) zs x y i)
  where
    by : (b : Bool) → bytes_eq x z ≡ b → (c : Bool) → bytes_eq y z ≡ c → cond b (Some n) (place_from (n + 1) zs x) ≡ Some i → cond c (Some n) (place_from (n + 1) zs y) ≡ Some i
        → (place_from (n + 1) zs x ≡ Some i → place_from (n + 1) zs y ≡ Some i → x ≡ y) → x ≡ y
    by true s true t e f rest = (bytes_eq-Decides x z).0 s ∙ sym ((bytes_eq-Decides y z).0 t)
    by true s false t e f rest = let q : n ≡ i = cc in let l = place_above (n + 1) zs y i f in absurd (omega (arith, q, l))
    by false s true t e f rest = let q : n ≡ i = cc in let l = place_above (n + 1) zs x i e in absurd (omega (arith, q, l))
    by false s false t e f rest = rest e f

module _ (p : TProgram) (k : TKind) where
  -- nothing is looked at
  pub none_quiet : AreQuiet p k []
  none_quiet x i at h = absurd (true≢false (sym h))

  -- what was looked at is not changed
  pub quiet_found : (ns : List ℕ) (x : Text) (i : ℕ) → AreQuiet p k ns → Some i ≡ place p.names.nvs x → is_in ns i ≡ true → false ≡ is_changed p k x
  quiet_found ns x i q at h = sym (ap (λ (o : Option ℕ). is_some o && callee_changes p k x) (sym at) ∙ q x i (sym at) h)

  -- what has a number is changed where a call changes it
  pub changed_is : (x : Text) (i : ℕ) → Some i ≡ place p.names.nvs x → callee_changes p k x ≡ is_changed p k x
  changed_is x i at = ap (λ (o : Option ℕ). is_some o && callee_changes p k x) at

  -- one number more
  pub quiet_more : (ns : List ℕ) (x : Text) (i : ℕ) → AreQuiet p k ns → Some i ≡ place p.names.nvs x → callee_changes p k x ≡ false → AreQuiet p k (add ns i)
  quiet_more ns x i q at none y j there h = by (is_in ns j) refl (sym (in_add ns i j) ∙ h)
    where
      by : (b : Bool) → is_in ns j ≡ b → is_in ns j || nat_eq i j ≡ true → callee_changes p k y ≡ false
      by true e f = q y j there e
      by false e f =
          let s : i ≡ j = eqb-true i j (sym (ap (λ (b : Bool). b || nat_eq i j) e) ∙ f) in
          let same : y ≡ x = same_place 0 p.names.nvs y x j there (sym at ∙ ap Some s) in
          ap (callee_changes p k) same ∙ none
