-- In a checked program each statement is found by its number, so the statements around it are those of its effect.
use Rattle.std.proofs.Common.{◌≡◌, ◌≤◌, refl, sym, ap, ◌∙◌, ℕ, zero, suc, arith, Bool, true, false, ◌==◌, List, [], ◌∷◌, ◌++◌, map, Some, cond}
use Rattle.std.specs.List.{find, filter, flat_map, list_any}
use Rattle.std.proofs.Math.ListN.{get_or}
use Rattle.std.proofs.lemmas.Bool.{eqb-true, eq-eqb}
use Rattle.oc_tree.specs.Tree.{TFunction, TProgram}
use Rattle.oc_tree.specs.Numbers.{numbers_on}
use Rattle.oc_tree.specs.Places.{Placed, at_start, block_placed, program_placed, placed}
use Rattle.oc_tree.specs.Checked.{Group, IsChecked}
use Rattle.oc_tree.proofs.Grouped.{ids, functions_ids}
use Rattle.oc_tree.specs.Marked.{TRegion, around, is_in_region, covers}
use Rattle.oc_effects.specs.Effects.{effect_of, function_effects, effects_at}
use Rattle.oc_writes.specs.Targets.{region_effects}
use Rattle.oc_writes.specs.Seen.{stands_in, standing_in}

-- ---- each of a list

abbrev pub Each : (Placed → Type 0) → List Placed → Type 0
Each P [] = Unit {0}
Each P (a ∷ xs) = P a × Each P xs

pub each_map : (P Q : Placed → Type 0) → ((a : Placed) → P a → Q a) → (xs : List Placed) → Each P xs → Each Q xs
each_map P Q f [] h = tt
each_map P Q f (a ∷ xs) h = (f a h.0, each_map P Q f xs h.1)

pub each_front : (P : Placed → Type 0) (xs ys : List Placed) → Each P (xs ++ ys) → Each P xs
each_front P [] ys h = tt
each_front P (a ∷ xs) ys h = (h.0, each_front P xs ys h.1)

pub each_back : (P : Placed → Type 0) (xs ys : List Placed) → Each P (xs ++ ys) → Each P ys
each_back P [] ys h = h
each_back P (a ∷ xs) ys h = each_back P xs ys h.1

pub each_all : (P : Placed → Type 0) → ((a : Placed) → P a) → (xs : List Placed) → Each P xs
each_all P f [] = tt
each_all P f (a ∷ xs) = (f a, each_all P f xs)

pub each_both : (P Q : Placed → Type 0) (xs : List Placed) → Each P xs → Each Q xs → Each (λ a. P a × Q a) xs
each_both P Q [] h g = tt
each_both P Q (a ∷ xs) h g = ((h.0, g.0), each_both P Q xs h.1 g.1)

-- for all of one kind at once
pub each_for : (J : Type 0) (P : J → Placed → Type 0) (xs : List Placed) → ((j : J) → Each (P j) xs) → Each (λ a. (j : J) → P j a) xs
each_for J P [] h = tt
each_for J P (a ∷ xs) h = ((λ j. (h j).0), each_for J P xs (λ j. (h j).1))

pub each_join : (P : Placed → Type 0) (xs ys : List Placed) → Each P xs → Each P ys → Each P (xs ++ ys)
each_join P [] ys h g = g
each_join P (a ∷ xs) ys h g = (h.0, each_join P xs ys h.1 g)

-- ---- found by their numbers

abbrev pub Found : (k : ℕ) → List Placed → Placed → Type 0
Found k xs a = (find (λ b. b.id == a.id) xs ≡ Some a) × (k ≤ a.id)

behind_first : (k : ℕ) (x : Placed) (xs : List Placed) → x.id ≡ k → (a : Placed) → Found (suc k) xs a → Found k (x ∷ xs) a
behind_first k x xs e a h = (by_test (x.id == a.id) refl, let l : suc k ≤ a.id = h.1 in omega (arith, l))
  where
    by_test : (b : Bool) → (x.id == a.id) ≡ b → cond b (Some x) (find (λ c. c.id == a.id) xs) ≡ Some a
    by_test true t = absurd (let s : x.id ≡ a.id = eqb-true x.id a.id t in let l : suc k ≤ a.id = h.1 in omega (arith, s, l, e))
    by_test false t = h.0

pub found : (k n : ℕ) (xs : List Placed) → ids xs ≡ numbers_on k n → Each (Found k xs) xs
found k zero [] e = tt
found k (suc n) [] e = tt
found k zero (x ∷ xs) e = cc
found k (suc n) (x ∷ xs) e =
    let h : x.id ≡ k = cc in
    let t : ids xs ≡ numbers_on (suc k) n = cc in (
      (ap (λ b. cond b (Some x) (find (λ c. c.id == x.id) xs)) (eq-eqb x.id x.id refl), omega (arith, h)),
      each_map (Found (suc k) xs) (Found k (x ∷ xs)) (behind_first k x xs h) xs
          (found (suc k) n xs t),
    )

-- ---- the statements of a region

module _ (p : TProgram) (r : TRegion) where
  abbrev IsFound : Placed → Type 0
  IsFound a = placed p a.id ≡ Some a

  same_filter : (xs : List Placed) → Each IsFound xs → filter (λ a. covers p r a.stmt) (map (effect_of p) xs) ≡ filter (stands_in p r) (map (effect_of p) xs)
  same_filter [] h = refl
  same_filter (a ∷ xs) h =
      let e : covers p r a.id ≡ stands_in p r (effect_of p a) = ap (λ o. list_any (is_in_region p r) (a.id ∷ around o)) h.0 in
      let t = same_filter xs h.1 in
      (λ i. cond (e i) (effect_of p a ∷ t i) (t i))

  at_place : (fs : List TFunction) (u : ℕ) → Each IsFound (flat_map (λ f. block_placed (at_start f) f.body) fs)
      → filter (λ a. covers p r a.stmt) (get_or (map (function_effects p) fs) u []) ≡ filter (stands_in p r) (get_or (map (function_effects p) fs) u [])
  at_place [] u h = refl
  at_place (f ∷ fs) zero h = same_filter (block_placed (at_start f) f.body) (each_front IsFound (block_placed (at_start f) f.body) (flat_map (λ g. block_placed (at_start g) g.body) fs) h)
  at_place (f ∷ fs) (suc u) h = at_place fs u (each_back IsFound (block_placed (at_start f) f.body) (flat_map (λ g. block_placed (at_start g) g.body) fs) h)

  pub standing_is : (groups : List Group) → IsChecked p groups → standing_in p r (effects_at p r.function) ≡ region_effects p r
  standing_is groups c =
      let h = found 1 _ (program_placed p) (functions_ids p.functions ∙ c.form.numbered.statements) in
      sym (at_place p.functions r.function (each_map (Found 1 (program_placed p)) IsFound (λ a f. f.0) (program_placed p) h))
