-- The sites that the code collects are those of the definition.
use Rattle.std.proofs.Common.{◌≡◌, refl, sym, ap, ◌∙◌, ℕ, Bool, true, false, inl, inr, List, [], ◌∷◌, ◌++◌, reverse, Some, cond}
use Rattle.std.specs.Prelude.{◌&&◌, not, filter, flat_map}
use Rattle.std.specs.List.{find}
use Rattle.std.specs.Option.{unwrap_or}
use Rattle.std.proofs.lemmas.List.{append-nil}
use Rattle.std.proofs.lemmas.Grind.{flat_map-append}
use Rattle.oc_tree.specs.Tree.{TProgram}
use Rattle.oc_tree.specs.Checked.{Group, IsChecked}
use Rattle.oc_tree.specs.declared.tree.VarId.{VarId}
use Rattle.oc_tree.specs.declared.tree.VarId.TheVariants.{Nv, Param, Declared, Returned}
use Rattle.oc_effects.specs.Effects.{TEffect, effects_at}
use Rattle.oc_flow.specs.Variables.{variables}
use Rattle.oc_tree.specs.Members.{IsOf}
use Rattle.oc_flow.specs.Flow.{flows, brings, brings_at}
use Rattle.oc_needs.specs.Sites.{is_loop_at, loops_of, stands_in, is_outside, carries, lifts, site, is_input, input_sites}
use Rattle.oc_needs.specs.Need.{is_empty}
use Rattle.oc_needs.specs.Code.{is_loop_by, is_outside_by, lifts_by, TSource, source_of, source_list, sources, source_site, sites_between, sites_from, source_sites}
use Rattle.oc_needs.proofs.Tests.{any_same, filter_same}
use Rattle.oc_needs.proofs.Apart.{any_find, apart_at, brings_own}

-- ---- lists that are joined

pub join_same : {A B : Type 0} (f g : A → List B) (xs : List A) → ((x : A) → f x ≡ g x) → flat_map f xs ≡ flat_map g xs
join_same f g [] h = refl
join_same f g (x ∷ xs) h = ap (λ ys. ys ++ flat_map f xs) (h x) ∙ ap (λ ys. g x ++ ys) (join_same f g xs h)

join_members : {A B : Type 0} (f g : A → List B) (xs : List A) → ((x : A) → IsOf x xs → f x ≡ g x) → flat_map f xs ≡ flat_map g xs
join_members f g [] h = refl
join_members f g (x ∷ xs) h = ap (λ ys. ys ++ flat_map f xs) (h x (inl refl)) ∙ ap (λ ys. g x ++ ys) (join_members f g xs (λ y o. h y (inr o)))

pub join_none : {A B : Type 0} (f : A → List B) (xs : List A) → ((x : A) → f x ≡ []) → flat_map f xs ≡ []
join_none f [] h = refl
join_none f (x ∷ xs) h = ap (λ ys. ys ++ flat_map f xs) (h x) ∙ join_none f xs h

join_filter_head : {A B : Type 0} (f : A → List B) (x : A) (rest : List A) (t : Bool) (ys : List B) → flat_map f rest ≡ ys → flat_map f (cond t (x ∷ rest) rest) ≡ cond t (f x) [] ++ ys
join_filter_head f x rest true ys e = ap (λ zs. f x ++ zs) e
join_filter_head f x rest false ys e = e

join_filter : {A B : Type 0} (f : A → List B) (t : A → Bool) (xs : List A) → flat_map f (filter t xs) ≡ flat_map (λ x. cond (t x) (f x) []) xs
join_filter f t [] = refl
join_filter f t (x ∷ xs) = join_filter_head f x (filter t xs) (t x) (flat_map (λ y. cond (t y) (f y) []) xs) (join_filter f t xs)

join_join : {A B C : Type 0} (f : B → List C) (g : A → List B) (xs : List A) → flat_map f (flat_map g xs) ≡ flat_map (λ x. flat_map f (g x)) xs
join_join f g [] = refl
join_join f g (x ∷ xs) = flat_map-append f (g x) (flat_map g xs) ∙ ap (λ ys. flat_map f (g x) ++ ys) (join_join f g xs)

module _ (p : TProgram) (groups : List Group) (c : IsChecked p groups) (f : ℕ) where
  loop_is : (s : ℕ) → is_loop_by p f s ≡ is_loop_at p f s
  loop_is s = sym (any_find (λ a. a.is_loop) s (effects_at p f) (apart_at p groups c f))

  outside_is : (loop : ℕ) (v : VarId) → is_outside_by p f loop v ≡ is_outside p f loop v
  outside_is loop (Nv i) = refl
  outside_is loop (Param i) = refl
  outside_is loop (Declared s) = ap not (sym (any_find (stands_in loop) s (effects_at p f) (apart_at p groups c f)))
  outside_is loop Returned = refl

  lifts_is : (u x : VarId) (loop : ℕ) → lifts_by p f u x loop ≡ lifts p f u x loop
  lifts_is u x loop = any_same (λ w. carries p f u x w && is_outside_by p f loop w) (λ w. carries p f u x w && is_outside p f loop w) (variables p f)
      (λ w. ap (λ b. carries p f u x w && b) (outside_is loop w))

  find_same : (g h : ℕ → Bool) (ns : List ℕ) → ((n : ℕ) → g n ≡ h n) → find g ns ≡ find h ns
  find_same g h [] e = refl
  find_same g h (n ∷ ns) e = ap (λ b. cond b (Some n) (find g ns)) (e n) ∙ ap (λ o. cond (h n) (Some n) o) (find_same g h ns e)

  site_is : (a : TEffect) (u x : VarId) → source_site p f (source_of p f a) u x ≡ site p f a u x
  site_is a u x =
      ap (λ o. unwrap_or o a.stmt)
      (ap (find (lifts_by p f u x)) (filter_same (is_loop_by p f) (is_loop_at p f) (reverse a.around) loop_is) ∙ find_same (lifts_by p f u x) (lifts p f u x) (loops_of p f a) (lifts_is u x))

  -- one input
  one_is : (b t : Bool) (m n : ℕ) → m ≡ n → cond b (cond t (m ∷ []) []) [] ≡ cond (b && t) (n ∷ []) []
  one_is true t m n e = ap (λ k. cond t (k ∷ []) []) e
  one_is false t m n e = refl

  into_cond : (b : Bool) (g : VarId → List ℕ) (xs : List VarId) → cond b (flat_map g xs) [] ≡ flat_map (λ x. cond b (g x) []) xs
  into_cond true g xs = refl
  into_cond false g xs = sym (join_none (λ x. []) xs (λ x. refl))

  between_is : (a : TEffect) (xs : List VarId) (u : VarId) → IsOf a (effects_at p f) → cond (brings_at p a.stmt u) (sites_between p f (source_of p f a) u xs) []
      ≡ flat_map (λ x. cond (is_input p f a u x) (site p f a u x ∷ []) []) xs
  between_is a xs u o =
      ap (λ b. cond b (sites_between p f (source_of p f a) u xs) []) (brings_own p groups c f a u o)
      ∙ (into_cond (brings p a u) (λ x. cond (flows p f u x) (source_site p f (source_of p f a) u x ∷ []) []) xs
      ∙ join_same (λ x. cond (brings p a u) (cond (flows p f u x) (source_site p f (source_of p f a) u x ∷ []) []) []) (λ x. cond (is_input p f a u x) (site p f a u x ∷ []) []) xs
      (λ x. one_is (brings p a u) (flows p f u x) (source_site p f (source_of p f a) u x) (site p f a u x) (site_is a u x)))

  from_is : (a : TEffect) (xs : List VarId) → IsOf a (effects_at p f) → sites_from p f xs (source_of p f a) (source_of p f a).brought
      ≡ flat_map (λ u. flat_map (λ x. cond (is_input p f a u x) (site p f a u x ∷ []) []) xs) (variables p f)
  from_is a xs o =
      join_filter (λ u. sites_between p f (source_of p f a) u xs) (brings_at p a.stmt) (variables p f)
      ∙ join_same (λ u. cond (brings_at p a.stmt u) (sites_between p f (source_of p f a) u xs) []) (λ u. flat_map (λ x. cond (is_input p f a u x) (site p f a u x ∷ []) []) xs)
      (variables p f) (λ u. between_is a xs u o)

  -- a statement that brings nothing has no sites
  listed : (xs us : List VarId) (s : TSource) → us ≡ s.brought → flat_map (λ t. sites_from p f xs t t.brought) (cond (is_empty us) [] (s ∷ [])) ≡ sites_from p f xs s us
  listed xs [] s e = refl
  listed xs (u ∷ us) s e = append-nil (sites_from p f xs s s.brought) ∙ ap (sites_from p f xs s) (sym e)

  pub sites_are : (xs : List VarId) → source_sites p f xs (sources p f (effects_at p f)) ≡ input_sites p f xs
  sites_are xs =
      join_join (λ s. sites_from p f xs s s.brought) (λ a. source_list (source_of p f a)) (effects_at p f)
      ∙ join_members (λ a. flat_map (λ s. sites_from p f xs s s.brought) (source_list (source_of p f a)))
      (λ a. flat_map (λ u. flat_map (λ x. cond (is_input p f a u x) (site p f a u x ∷ []) []) xs) (variables p f)) (effects_at p f)
      (λ a o. listed xs (source_of p f a).brought (source_of p f a) refl ∙ from_is a xs o)
