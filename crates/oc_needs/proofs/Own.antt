-- The variables of a function, of which each stands there once.
use Rattle.std.proofs.Common.{◌≡◌, ◌≢◌, refl, sym, ap, ◌∙◌, subst, ℕ, zero, suc, ◌+◌, ◌<◌, ◌≤◌, arith, Bool, true, false, true≢false, inl, inr, List, [], ◌∷◌, ◌++◌, map, filter, length, cond}
use Rattle.std.specs.Prelude.{◌||◌, ◌&&◌, nat_eq, nat_lt}
use Rattle.std.proofs.Math.ListN.{get_or}
use Rattle.std.proofs.lemmas.Bool.Decides.{nat_tests}
use Rattle.std.proofs.lemmas.List.Folds.{list_any-append}
use Rattle.std.proofs.lemmas.Bool.{or_from}
use Rattle.oc_tree.specs.Tree.{TProgram}
use Rattle.oc_tree.specs.declared.tree.VarId.{VarId}
use Rattle.oc_tree.specs.declared.tree.VarId.TheVariants.{Nv, Param, Declared, Returned}
use Rattle.oc_tree.specs.Checked.{Group, IsChecked}
use Rattle.oc_tree.specs.Members.{IsOf}
use Rattle.oc_effects.specs.Effects.{TEffect, effects_at, params_at}
use Rattle.oc_flow.specs.Variables.{from, is_among, is_variable, same_variable, variables}
use Rattle.oc_flow.specs.Flow.{chain, flows, flows_to, leads}
use Rattle.oc_flow.proofs.Added.{same_sym}
use Rattle.oc_flow.proofs.Lists.{image_of, of_kept, same_is, same_itself}
use Rattle.oc_needs.proofs.Apart.{Apart, apart_at}

abbrev pub Distinct : List VarId → Type 0
Distinct [] = Unit {0}
Distinct (v ∷ vs) = (is_among v vs ≡ false) × Distinct vs

unlike : (i j : ℕ) → i ≢ j → nat_eq i j ≡ false
unlike i j d = grind (arith, d)

-- ---- lists of one kind

none_at : {A : Type 0} (v : VarId) (K : A → VarId) (xs : List A) → ((a : A) → IsOf a xs → same_variable v (K a) ≡ false) → is_among v (map K xs) ≡ false
none_at v K [] h = refl
none_at v K (x ∷ xs) h = or_from (same_variable v (K x)) (is_among v (map K xs)) (h x (inl refl)) (none_at v K xs (λ a o. h a (inr o)))

from_above : (n count i : ℕ) → IsOf i (from n count) → n ≤ i
from_above n zero i o = absurd o
from_above n (suc count) i (inl e) = omega (arith, e)
from_above n (suc count) i (inr o) = let l = from_above (n + 1) count i o in omega (arith, l)

distinct_from : (K : ℕ → VarId) → ((i j : ℕ) → i ≢ j → same_variable (K i) (K j) ≡ false) → (n count : ℕ) → Distinct (map K (from n count))
distinct_from K h n zero = tt
distinct_from K h n (suc count) = (
  none_at (K n) K (from (n + 1) count) (λ i o. h n i (λ e. let l = from_above (n + 1) count i o in absurd (omega (arith, l, e)))),
  distinct_from K h (n + 1) count,
)

abbrev declared : TEffect → VarId
declared a = Declared a.stmt

distinct_more : (a : TEffect) (es : List TEffect) (b : Bool) → ((e : TEffect) → IsOf e es → a.stmt ≡ e.stmt → ⊥) → Distinct (map declared (filter (λ e. e.declares) es))
    → Distinct (map declared (cond b (a ∷ filter (λ e. e.declares) es) (filter (λ e. e.declares) es)))
distinct_more a es true h rest = (none_at (declared a) declared (filter (λ e. e.declares) es) (λ e o. unlike a.stmt e.stmt (h e (of_kept (λ e. e.declares) es e o).0)), rest)
distinct_more a es false h rest = rest

distinct_declared : (es : List TEffect) → Apart es → Distinct (map declared (filter (λ a. a.declares) es))
distinct_declared [] h = tt
distinct_declared (a ∷ es) h = distinct_more a es a.declares h.0 (distinct_declared es h.1)

-- ---- those of a function

distinct_join : (xs ys : List VarId) → Distinct xs → Distinct ys → ((v : VarId) → IsOf v xs → is_among v ys ≡ false) → Distinct (xs ++ ys)
distinct_join [] ys d e h = e
distinct_join (x ∷ xs) ys d e h = (
  list_any-append (same_variable x) xs ys ∙ or_from (is_among x xs) (is_among x ys) d.0 (h x (inl refl)),
  distinct_join xs ys d.1 e (λ v o. h v (inr o)),
)

module _ (ns qs : List ℕ) (es : List TEffect) where
  given_not : (i : ℕ) → is_among (Param i) (Returned ∷ map declared es) ≡ false
  given_not i = none_at (Param i) declared es (λ a o. refl)

  stored_not : (i : ℕ) → is_among (Nv i) (map Param qs ++ (Returned ∷ map declared es)) ≡ false
  stored_not i =
      list_any-append (same_variable (Nv i)) (map Param qs) (Returned ∷ map declared es)
      ∙ or_from (is_among (Nv i) (map Param qs)) (is_among (Nv i) (Returned ∷ map declared es)) (none_at (Nv i) Param qs (λ a o. refl)) (none_at (Nv i) declared es (λ a o. refl))

  distinct_all : Distinct (map Nv ns) → Distinct (map Param qs) → Distinct (map declared es) → Distinct (map Nv ns ++ (map Param qs ++ (Returned ∷ map declared es)))
  distinct_all d e f = distinct_join (map Nv ns) (map Param qs ++ (Returned ∷ map declared es)) d
      (distinct_join (map Param qs) (Returned ∷ map declared es) e (none_at Returned declared es (λ a o. refl), f)
      (λ v o. let z = image_of Param qs v o in subst (λ w. is_among w (Returned ∷ map declared es) ≡ false) (sym z.2) (given_not z.0)))
      (λ v o. let z = image_of Nv ns v o in subst (λ w. is_among w (map Param qs ++ (Returned ∷ map declared es)) ≡ false) (sym z.2) (stored_not z.0))

variables_distinct : (p : TProgram) (groups : List Group) → IsChecked p groups → (f : ℕ) → Distinct (variables p f)
variables_distinct p groups c f =
    distinct_all (from 0 (length p.names.nvs)) (from 0 (length (params_at p f))) (filter (λ a. a.declares) (effects_at p f)) (distinct_from Nv (λ i j d. unlike i j d) 0 (length p.names.nvs))
    (distinct_from Param (λ i j d. unlike i j d) 0 (length (params_at p f))) (distinct_declared (effects_at p f) (apart_at p groups c f))

-- ---- one of them

kept_one : (x : VarId) (vs : List VarId) → Distinct vs → filter (λ v. is_among v (x ∷ [])) vs ≡ cond (is_among x vs) (x ∷ []) []
kept_one x [] d = refl
kept_one x (v ∷ vs) d = by (same_variable x v) refl (kept_one x vs d.1)
  where
    kept : List VarId
    kept = filter (λ v. is_among v (x ∷ [])) vs

    by : (b : Bool) → same_variable x v ≡ b → kept ≡ cond (is_among x vs) (x ∷ []) [] → cond (same_variable v x || false) (v ∷ kept) kept ≡ cond (b || is_among x vs) (x ∷ []) []
    by true e rest =
        let q : v ≡ x = sym (same_is x v e) in
        let here : same_variable v x ≡ true = same_sym v x ∙ e in
        let none : kept ≡ [] = rest ∙ ap (λ b. cond b (x ∷ []) []) (subst (λ w. is_among w vs ≡ false) q d.0) in
        ap (λ b. cond (b || false) (v ∷ kept) kept) here ∙ (λ i. q i ∷ none i)
    by false e rest = ap (λ b. cond (b || false) (v ∷ kept) kept) (same_sym v x ∙ e) ∙ rest

one_of : (xs : List VarId) (x : VarId) → length xs ≡ 1 → x ≡ get_or xs 0 x → xs ≡ x ∷ []
one_of [] x n e = absurd (omega (arith, n))
one_of (y ∷ []) x n e = ap (λ z. z ∷ []) (sym e)
one_of (y ∷ z ∷ zs) x n e = absurd (omega (arith, n))

pub front_same : (xs : List VarId) (d : VarId) → length xs ≡ 1 → get_or xs 0 d ≡ get_or xs 0 (get_or xs 0 d)
front_same [] d n = absurd (omega (arith, n))
front_same (x ∷ xs) d n = refl

-- a variable of a function flows into itself
itself : (p : TProgram) (n f : ℕ) (v : VarId) → 0 < n → flows_to p n f v v ≡ is_variable p f v
unfolding flows_to
itself p zero f v h = absurd (omega (arith, h))
itself p (suc n) f v h = both (is_variable p f v) (same_variable v v) (chain (leads p (flows_to p n) f) (variables p f) v v) (same_itself v)
  where
    both : (a s c : Bool) → s ≡ true → a && (a && (s || c)) ≡ a
    both true true c e = refl
    both true false c e = absurd (true≢false (sym e))
    both false s c e = refl

flows_itself : (p : TProgram) (f : ℕ) (v : VarId) → f < length p.functions → flows p f v v ≡ is_among v (variables p f)
flows_itself p f v h =
    let there : nat_lt f (length p.functions) ≡ true = grind (arith, nat_tests, h) in
    itself p (length p.functions) f v (omega (arith, h)) ∙ ap (λ b. b && is_among v (variables p f)) there

-- what is kept where there is one alone
pub kept_own : (p : TProgram) (groups : List Group) → IsChecked p groups → (f : ℕ) (others own : List VarId) (x : VarId) → f < length p.functions → own ≡ variables p f
    → length others ≡ 1 → x ≡ get_or others 0 x → cond (flows p f x x) (x ∷ []) [] ≡ filter (λ v. is_among v others) own
kept_own p groups c f others own x h e n at =
    ap (λ b. cond b (x ∷ []) []) (flows_itself p f x h)
    ∙ sym (kept_one x (variables p f) (variables_distinct p groups c f))
    ∙ (λ i. filter (λ v. is_among v (sym (one_of others x n at) i)) (sym e i))
