-- Statements, calls and functions for which nothing is to be done.
use Rattle.std.proofs.Common.{◌≡◌, refl, sym, ap, ◌∙◌, ℕ, Bool, true, false, true≢false, List, [], ◌∷◌, ◌++◌, cond, filter, Option, Some, None}
use Rattle.std.specs.Prelude.{◌&&◌, ◌||◌, flat_map, is_some, not}
use Rattle.std.specs.List.{list_any}
use Rattle.std.proofs.Math.ListN.{get_or}
use Rattle.std.proofs.lemmas.Bool.{or_from, or_parts}
use Rattle.oc_tree.specs.Tree.{TProgram}
use Rattle.oc_tree.specs.declared.tree.VarId.{VarId}
use Rattle.oc_tree.specs.declared.tree.VarId.TheVariants.{Nv, Param, Declared, Returned}
use Rattle.oc_effects.specs.Effects.{TCalled, TEffect, effects_at}
use Rattle.oc_flow.specs.Variables.{begins, variables, is_given}
use Rattle.oc_flow.specs.Flow.{brings_at, may_bring_at}
use Rattle.oc_flow.proofs.Nothing.{no_bringer}
use Rattle.oc_needs.specs.Need.{is_empty}
use Rattle.oc_needs.specs.Requirements.{rising, with_inputs}
use Rattle.oc_needs.specs.Code.{TSource, is_looped, looped_sites, sites_from, sites_inside, loops_by, source_of, source_list, sources, stands_for, needed_in_call, is_given_to, sites_for, call_list}
use Rattle.oc_needs.specs.Code.{callee, callees, call_lists, is_any_needed, needed_in_calls}
use Rattle.oc_needs.specs.Code.{is_nv, is_param}
use Rattle.oc_needs.proofs.SiteLists.{no_sites}
use Rattle.oc_needs.proofs.Tests.{filter_same}

none_kept : {A : Type 0} (t : A → Bool) (xs : List A) → ((x : A) → t x ≡ false) → filter t xs ≡ []
none_kept t [] h = refl
none_kept t (x ∷ xs) h = ap (λ b. cond b (x ∷ filter t xs) (filter t xs)) (h x) ∙ none_kept t xs h

-- a statement that may bring no input is no source
pub no_source : (p : TProgram) (f : ℕ) (a : TEffect) → may_bring_at p a.stmt ≡ false → source_list (source_of p f a) ≡ []
no_source p f a h =
    ap (λ vs. source_list (record { stmt = a.stmt; loops = loops_by p f a.around; brought = vs }))
    (none_kept (brings_at p a.stmt) (variables p f) (λ v. no_bringer p a.stmt v h))

-- where nothing is needed of a function, nothing is needed at its calls
pub none_stand : (c : TCalled) (vs : List VarId) → filter (stands_for c []) vs ≡ []
none_stand c vs = none_kept (stands_for c []) vs (λ v. refl)

-- for nonvolatile variables only such stand
other_begins : (c : TCalled) (x y : VarId) → is_param x ≡ false → is_nv y ≡ false → begins c x y ≡ false
other_begins c (Nv i) (Nv j) p n = absurd (true≢false n)
other_begins c (Nv i) (Param j) p n = refl
other_begins c (Nv i) (Declared j) p n = refl
other_begins c (Nv i) Returned p n = refl
other_begins c (Param i) y p n = absurd (true≢false p)
other_begins c (Declared i) y p n = refl
other_begins c Returned y p n = refl

other_stands : (c : TCalled) (row : List VarId) (y : VarId) → list_any is_param row ≡ false → is_nv y ≡ false → stands_for c row y ≡ false
other_stands c [] y p n = refl
other_stands c (x ∷ row) y p n =
    let s = or_parts (is_param x) (list_any is_param row) p in
    or_from (begins c x y) (stands_for c row y) (other_begins c x y s.0 n) (other_stands c row y s.1 n)

nv_stands : (c : TCalled) (row : List VarId) → list_any is_param row ≡ false → (y : VarId) → (is_nv y && stands_for c row y) ≡ stands_for c row y
nv_stands c row p y = by (is_nv y) refl
  where
    by : (b : Bool) → is_nv y ≡ b → (b && stands_for c row y) ≡ stands_for c row y
    by true n = refl
    by false n = sym (other_stands c row y p n)

pub nvs_stand : (c : TCalled) (row vs : List VarId) → list_any is_param row ≡ false → filter (λ y. is_nv y && stands_for c row y) vs ≡ filter (stands_for c row) vs
nvs_stand c row vs p = filter_same (λ y. is_nv y && stands_for c row y) (stands_for c row) vs (nv_stands c row p)

pub none_needed : (rows : List (List VarId)) (vs : List VarId) (o : Option TCalled) → is_some o ≡ false → needed_in_call rows vs o ≡ []
none_needed rows vs None h = refl
none_needed rows vs (Some c) h = absurd (true≢false h)

-- nothing is needed of a function in which nothing needs anything
pub none_given : (p : TProgram) (g : ℕ) (vs : List VarId) → filter (is_given_to p g []) vs ≡ []
none_given p g vs = none_kept (is_given_to p g []) vs (λ v. nothing (is_given v))
  where
    nothing : (b : Bool) → b && false ≡ false
    nothing true = refl
    nothing false = refl

-- a statement that calls nothing requires nothing
pub none_listed : (p : TProgram) (g : ℕ) (rows : List (List VarId)) (a : TEffect) → is_some a.call ≡ false → call_list p g rows a ≡ []
none_listed p g rows a h =
    ap (λ vs. sites_for p g vs (a.stmt ∷ [])) (none_needed rows (variables p g) a.call h)
    ∙ ap (λ ns. with_inputs ns (a.stmt ∷ [])) (no_sites p g (sources p g (effects_at p g)))

-- ---- where nothing is needed of the functions that are called

nothing_in : {A : Type 0} (xs : List A) → not (is_empty xs) ≡ false → xs ≡ []
nothing_in [] h = refl
nothing_in (x ∷ xs) h = absurd (true≢false h)

module _ (rows : List (List VarId)) (vs : List VarId) (es : List TEffect) where
  -- nothing is needed at the first statement, nor is it of what the others call
  first_idle : (o : Option TCalled) → is_any_needed rows (callee o ++ callees es) ≡ false → (needed_in_call rows vs o ≡ []) × (is_any_needed rows (callees es) ≡ false)
  first_idle None h = (refl, h)
  first_idle (Some c) h =
      let s = or_parts (not (is_empty (get_or rows c.function []))) (is_any_needed rows (callees es)) h in
      (ap (λ row. filter (stands_for c row) vs) (nothing_in (get_or rows c.function []) s.0) ∙ none_stand c vs, s.1)

-- nothing is needed at the statements
pub idle_calls : (rows : List (List VarId)) (vs : List VarId) (es : List TEffect) → is_any_needed rows (callees es) ≡ false → needed_in_calls rows vs es ≡ []
idle_calls rows vs [] h = refl
idle_calls rows vs (a ∷ es) h =
    let s = first_idle rows vs es a.call h in
    ap (λ ws. ws ++ needed_in_calls rows vs es) s.0 ∙ idle_calls rows vs es s.1

-- they require nothing
pub idle_lists : (p : TProgram) (g : ℕ) (rows : List (List VarId)) (es : List TEffect) → is_any_needed rows (callees es) ≡ false → call_lists p g rows es ≡ []
idle_lists p g rows [] h = refl
idle_lists p g rows (a ∷ es) h =
    let s = first_idle rows (variables p g) es a.call h in
    let none : call_list p g rows a ≡ [] = ap (λ vs. sites_for p g vs (a.stmt ∷ [])) s.0 ∙ ap (λ ns. with_inputs ns (a.stmt ∷ [])) (no_sites p g (sources p g (effects_at p g))) in
    ap (λ ls. ls ++ call_lists p g rows es) none ∙ idle_lists p g rows es s.1

-- where no statement with inputs stands in a loop, no variable has sites of such
pub none_looped : (p : TProgram) (f : ℕ) (x : VarId) (ss : List TSource) → list_any is_looped ss ≡ false → looped_sites p f ss x ≡ []
none_looped p f x ss h = ap rising (none ss h)
  where
    none : (ss : List TSource) → list_any is_looped ss ≡ false → flat_map (sites_inside p f x) ss ≡ []
    none [] h = refl
    none (s ∷ ss) h = by (is_empty s.loops) h (none ss)
      where
        by : (b : Bool) → not b || list_any is_looped ss ≡ false → (list_any is_looped ss ≡ false → flat_map (sites_inside p f x) ss ≡ [])
            → cond b [] (sites_from p f (x ∷ []) s s.brought) ++ flat_map (sites_inside p f x) ss ≡ []
        by true h rest = rest h
        by false h rest = absurd (true≢false h)
