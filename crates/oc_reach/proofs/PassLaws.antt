-- References are passed on between parameters that exist.
use Rattle.std.proofs.Common.{◌≡◌, ◌<◌, ◌≤◌, ◌+◌, ◌++◌, ℕ, zero, suc, Bool, true, false, List, [], ◌∷◌, Option, Some, None, cond, nat_eq, length, map, drop, refl, sym, ap, ◌∙◌, true≢false, arith}
use Rattle.std.specs.Prelude.{option_map}
use Rattle.std.specs.List.{flat_map}
use Rattle.std.proofs.Math.ListN.{get_or}
use Rattle.std.proofs.lemmas.List.{length-map, append_assoc}
use Rattle.std.proofs.lemmas.List.Sums.{sum_by-cons}
use Rattle.std.proofs.lemmas.Bool.{eqb-true, and_parts}
use Rattle.std.proofs.lemmas.List.Folds.{list_any-append}
use Rattle.oc_tree.specs.Names.{Text}
use Rattle.oc_tree.specs.Tree.{TArg, value, shared, mutable, TCall, call, TArgs, no_args, more_args, TFunction}
use Rattle.oc_tree.specs.declared.tree.Param.{Param}
use Rattle.oc_tree.specs.declared.tree.Function.{Function}
use Rattle.oc_tree.specs.View.{function_view}
use Rattle.oc_tree.specs.Reach.{Links, linked, is_link}
use Rattle.oc_tree.specs.Calls.{place, function_place, body_calls}
use Rattle.oc_tree.specs.Assigned.{is_mutable, alone, first_params, first_param, param_count, mutable_params, takes_mutable, mutable_param, own_param, link_of, arg_links}
use Rattle.oc_tree.specs.Assigned.{args_links, to_links, pass_call, function_links, pass_links_from, pass_links, param_names}
use Rattle.oc_tree.proofs.ReachLaws.{or_elim}
use Rattle.oc_reach.specs.Within.{IsWithin}
use Rattle.oc_names.proofs.Entries.{place_below}
use Rattle.oc_reach.proofs.Tests.{test_inside}

abbrev pub params_at : List TFunction → ℕ → List Param
params_at fs u = get_or (map (λ f. f.params) fs) u []

-- the parameters of a function lie among all
pub first_room : (n : ℕ) (fs : List TFunction) (u : ℕ) → u < length fs → get_or (first_params n fs) u 0 + length (params_at fs u) ≤ n + param_count fs
first_room n [] u h = absurd (omega arith)
first_room n (f ∷ fs) zero h = omega (arith, sum_by-cons (λ g. length g.params) f fs)
first_room n (f ∷ fs) (suc u) h = let r = first_room (n + length f.params) fs u (omega (arith, h)) in omega (arith, r, sum_by-cons (λ g. length g.params) f fs)

-- a `&mut` parameter exists
pub takes_below : (fs : List TFunction) (u i : ℕ) → takes_mutable fs u i ≡ true → (u < length fs) × (i < length (params_at fs u))
takes_below [] u i h = absurd (true≢false (sym h))
takes_below (f ∷ fs) zero i h =
    let t = test_inside (mutable_params f) i h in
    let n : length (mutable_params f) ≡ length f.params = length-map f.params _ in
    (omega arith, omega (arith, t, n))
takes_below (f ∷ fs) (suc u) i h = let p = takes_below fs u i h in (omega (arith, p.0), p.1)

pub mutable_below : (fs : List TFunction) (u i b : ℕ) → mutable_param fs u i ≡ Some b → b < param_count fs
mutable_below fs u i b h = by (takes_mutable fs u i) refl h
  where
    by : (t : Bool) → takes_mutable fs u i ≡ t → cond t (Some (first_param fs u + i)) None ≡ Some b → b < param_count fs
    by true e k =
        let p = takes_below fs u i e in
        let r = first_room 0 fs u p.0 in
        let s : first_param fs u + i ≡ b = cc in
        omega (arith, p.1, r, s)
    by false e k = absurd (cc)

pub own_below : (first : ℕ) (params : List Text) (x : Option Text) (a : ℕ) → own_param first params x ≡ Some a → a < first + length params
own_below first params None a h = absurd (cc)
own_below first params (Some x) a h = by (place params x) refl h
  where
    by : (r : Option ℕ) → place params x ≡ r → option_map (λ j. first + j) r ≡ Some a → a < first + length params
    by None e k = absurd (cc)
    by (Some j) e k =
        let b : j < 0 + length params = place_below 0 params x j e in
        let s : first + j ≡ a = cc in
        omega (arith, b, s)

link_is : (r s : Option ℕ) (a b : ℕ) → linked (link_of r s) a b ≡ true → (r ≡ Some a) × (s ≡ Some b)
link_is None s a b h = absurd (true≢false (sym h))
link_is (Some x) None a b h = absurd (true≢false (sym h))
link_is (Some x) (Some y) a b h = or_elim (is_link a b (x, y)) false h
    (λ k. (ap Some (eqb-true x a (and_parts (nat_eq x a) (nat_eq y b) k).0), ap Some (eqb-true y b (and_parts (nat_eq x a) (nat_eq y b) k).1)))
    (λ k. absurd (true≢false (sym k)))

module _ (all : List TFunction) (first : ℕ) (params : List Text) where
  arg_within : (v i : ℕ) (a : TArg) (x y : ℕ) → linked (arg_links all first params v i a) x y ≡ true → (x < first + length params) × (y < param_count all)
  arg_within v i (value e) x y h =
      let p = link_is (own_param first params (alone e)) (mutable_param all v i) x y h in
      (own_below first params (alone e) x p.0, mutable_below all v i y p.1)
  arg_within v i (shared z) x y h = absurd (true≢false (sym h))
  arg_within v i (mutable z) x y h = absurd (true≢false (sym h))

  args_within : (v i : ℕ) (args : TArgs) (x y : ℕ) → linked (args_links all first params v i args) x y ≡ true → (x < first + length params) × (y < param_count all)
  args_within v i no_args x y h = absurd (true≢false (sym h))
  args_within v i (more_args a rest) x y h =
      or_elim (linked (arg_links all first params v i a) x y) (linked (args_links all first params v (i + 1) rest) x y)
      (sym (list_any-append (is_link x y) (arg_links all first params v i a) (args_links all first params v (i + 1) rest)) ∙ h)
      (λ k. arg_within v i a x y k)
      (λ k. args_within v (i + 1) rest x y k)

  to_within : (args : TArgs) (r : Option ℕ) (x y : ℕ) → linked (to_links all first params args r) x y ≡ true → (x < first + length params) × (y < param_count all)
  to_within args None x y h = absurd (true≢false (sym h))
  to_within args (Some v) x y h = args_within v 0 args x y h

  call_within : (c : TCall) (x y : ℕ) → linked (pass_call all first params c) x y ≡ true → (x < first + length params) × (y < param_count all)
  call_within (call f args) x y h = to_within args (function_place all f) x y h

  calls_pass : (cs : List TCall) (x y : ℕ) → linked (flat_map (pass_call all first params) cs) x y ≡ true → (x < first + length params) × (y < param_count all)
  calls_pass [] x y h = absurd (true≢false (sym h))
  calls_pass (c ∷ cs) x y h =
      or_elim (linked (pass_call all first params c) x y) (linked (flat_map (pass_call all first params) cs) x y)
      (sym (list_any-append (is_link x y) (pass_call all first params c) (flat_map (pass_call all first params) cs)) ∙ h)
      (λ k. call_within c x y k)
      (λ k. calls_pass cs x y k)

-- the function at a place, where the rest of the list is known
pub rest_at : (all : List TFunction) (u : ℕ) (f : TFunction) (fs : List TFunction) → drop u all ≡ f ∷ fs → (u < length all) × (params_at all u ≡ f.params) × (drop (u + 1) all ≡ fs)
rest_at [] zero f fs h = absurd (cc)
rest_at [] (suc u) f fs h = absurd (cc)
rest_at (g ∷ all) zero f fs h =
    let a : g ≡ f = cc in
    let b : all ≡ fs = cc in
    (omega arith, ap (λ q. q.params) a, b)
rest_at (g ∷ all) (suc u) f fs h =
    let p = rest_at all u f fs h in
    let e : suc u + 1 ≡ suc (u + 1) = omega arith in
    (omega (arith, p.0), p.1, ap (λ n. drop n (g ∷ all)) e ∙ p.2)

from_pass : (all : List TFunction) (u : ℕ) (fs : List TFunction) → drop u all ≡ fs → (x y : ℕ) → linked (pass_links_from all u fs) x y ≡ true → (x < param_count all) × (y < param_count all)
from_pass all u [] e x y h = absurd (true≢false (sym h))
from_pass all u (f ∷ fs) e x y h =
    let at = rest_at all u f fs e in
    let mine = function_links all (first_param all u) f in
    or_elim (linked mine x y) (linked (pass_links_from all (u + 1) fs) x y)
    (sym (list_any-append (is_link x y) mine (pass_links_from all (u + 1) fs)) ∙ h)
    (λ k.
    let p : (x < first_param all u + length (param_names f)) × (y < param_count all) = calls_pass all (first_param all u) (param_names f) (body_calls f) x y k in
    let r = first_room 0 all u at.0 in
    let n : length (param_names f) ≡ length f.params = length-map f.params _ in
    let m : length (params_at all u) ≡ length f.params = ap length at.1 in
    (omega (arith, p.0, r, n, m), p.1))
    (λ k. from_pass all (u + 1) fs at.2 x y k)

pub passes_within : (fs : List TFunction) → IsWithin (pass_links fs) (param_count fs)
passes_within fs x y h = from_pass fs 0 fs refl x y h

-- the parameters of a function as code reads them
pub mutable_at : (xs : List Function) (u : ℕ) (f : Function) → u < length xs → f ≡ get_or xs u f → get_or (map mutable_params (map function_view xs)) u []
    ≡ map (λ p. is_mutable p.passing) f.params.items
mutable_at [] u f h e = absurd (omega arith)
mutable_at (x ∷ xs) zero f h e = ap (λ g. map (λ p. is_mutable p.passing) g.params.items) (sym e)
mutable_at (x ∷ xs) (suc u) f h e = mutable_at xs u f (omega (arith, h)) e

pub params_read : (xs : List Function) (u : ℕ) (f : Function) → u < length xs → f ≡ get_or xs u f → params_at (map function_view xs) u ≡ f.params.items
params_read [] u f h e = absurd (omega arith)
params_read (x ∷ xs) zero f h e = ap (λ g. g.params.items) (sym e)
params_read (x ∷ xs) (suc u) f h e = params_read xs u f (omega (arith, h)) e

pub firsts_length : (n : ℕ) (fs : List TFunction) → length (first_params n fs) ≡ length fs
firsts_length n [] = refl
firsts_length n (f ∷ fs) = ap suc (firsts_length (n + length f.params) fs)

-- a list that grows by the next part of what is left
pub grown_by : (front grown mine rest whole : Links) → grown ≡ front ++ mine → front ++ (mine ++ rest) ≡ whole → grown ++ rest ≡ whole
grown_by front grown mine rest whole a h = ap (λ l. l ++ rest) a ∙ append_assoc front mine rest ∙ h
