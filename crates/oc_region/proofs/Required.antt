-- The sites of a requirement are statements of its function, and its policy is one of the policies.
use Rattle.std.proofs.Common.{◌≡◌, ◌<◌, ◌≤◌, ℕ, zero, suc, ◌+◌, Bool, true, false, ◌==◌, List, [], ◌∷◌, ◌++◌, length, map, Option, Some, None, cond, refl, sym, subst, arith}
use Rattle.std.proofs.Math.ListN.{get_or}
use Rattle.std.specs.Prelude.{◌&&◌, flat_map, find, filter, reverse, nat_eq, nat_lt, if◌then◌else◌}
use Rattle.std.specs.Option.{unwrap_or}
use Rattle.std.proofs.lemmas.Bool.{eqb-true, and_parts}
use Rattle.oc_tree.specs.Tree.{TFunction, TProgram}
use Rattle.oc_tree.specs.declared.tree.VarId.{VarId}
use Rattle.oc_tree.specs.declared.marked.Policy.{Policy}
use Rattle.oc_tree.specs.Places.{block_placed, at_start}
use Rattle.oc_effects.specs.Effects.{TEffect, effect_of, function_effects, effects_at}
use Rattle.oc_flow.specs.Variables.{from, variables}
use Rattle.oc_tree.specs.Samples.{with_sample}
use Rattle.oc_needs.specs.Policies.{policies, annotated, held, is_held}
use Rattle.oc_needs.specs.Sites.{is_loop_at, loops_of, lifts, site, is_input, input_sites}
use Rattle.oc_needs.specs.Need.{is_empty}
use Rattle.oc_needs.specs.Requirements.{TRequirement, rising, is_before, with_list, in_order, with_inputs, own_sites, needed_at, call_sites, function_sites, required_in}
use Rattle.oc_needs.specs.Requirements.{required_of, required_from, requirements}
use Rattle.oc_region.proofs.Elements.{Each, each_always, each_append, each_cond, each_filter, each_passes, each_find, each_any, each_flat_map, each_mapped}
use Rattle.oc_region.proofs.Owners.{Owns, own_statements, InFunction, function_fits}

-- ---- lists of numbers in order

module _ (P : ℕ → Type 0) where
  each_with_sample : (n : ℕ) (ns : List ℕ) → P n → Each P ns → Each P (with_sample n ns)
  each_with_sample n [] h each = (h, tt)
  each_with_sample n (m ∷ ms) h each =
      by_tests (nat_lt n m) (n == m) (each_with_sample n ms h each.1)
    where
      by_tests : (b c : Bool) → Each P (with_sample n ms) → Each P (if b then n ∷ m ∷ ms else (if c then m ∷ ms else m ∷ with_sample n ms))
      by_tests true c rest = (h, each)
      by_tests false true rest = each
      by_tests false false rest = (each.0, rest)

  pub each_rising : (ns : List ℕ) → Each P ns → Each P (rising ns)
  each_rising [] each = tt
  each_rising (n ∷ ns) each = each_with_sample n (rising ns) each.0 (each_rising ns each.1)

module _ (P : List ℕ → Type 0) where
  each_with_list : (n : List ℕ) (ns : List (List ℕ)) → P n → Each P ns → Each P (with_list n ns)
  each_with_list n [] h each = (h, tt)
  each_with_list n (m ∷ ms) h each = by_tests (is_before n m) (is_before m n) (each_with_list n ms h each.1)
    where
      by_tests : (b c : Bool) → Each P (with_list n ms) → Each P (cond b (n ∷ (m ∷ ms)) (cond c (m ∷ with_list n ms) (m ∷ ms)))
      by_tests true c rest = (h, each)
      by_tests false true rest = (each.0, rest)
      by_tests false false rest = each

  each_in_order : (ns : List (List ℕ)) → Each P ns → Each P (in_order ns)
  each_in_order [] each = tt
  each_in_order (n ∷ ns) each = each_with_list n (in_order ns) each.0 (each_in_order ns each.1)

-- there is one of them
abbrev pub IsSome : {A : Type 0} → List A → Type 0
IsSome xs = is_empty xs ≡ false

some_with_sample : (n : ℕ) (ns : List ℕ) → IsSome (with_sample n ns)
some_with_sample n [] = refl
some_with_sample n (m ∷ ms) = by_tests (nat_lt n m) (n == m)
  where
    by_tests : (b c : Bool) → IsSome (if b then n ∷ m ∷ ms else (if c then m ∷ ms else m ∷ with_sample n ms))
    by_tests true c = refl
    by_tests false true = refl
    by_tests false false = refl

some_rising : (ms ns : List ℕ) → IsSome ms → IsSome (rising (ms ++ ns))
some_rising [] ns h = cc
some_rising (m ∷ ms) ns h = some_with_sample m (rising (ms ++ ns))

-- ---- sites

module _ (p : TProgram) where
  -- a statement of the function at a place
  abbrev pub Own : ℕ → ℕ → Type 0
  Own g s = Owns own_statements p.functions g s

  effects_own : (fs : List TFunction) (g : ℕ) → Each (λ a. Owns own_statements fs g a.stmt) (get_or (map (function_effects p) fs) g [])
  effects_own [] g = tt
  effects_own (f ∷ fs) zero = each_mapped (InFunction f) (λ a. Owns own_statements (f ∷ fs) 0 a.stmt) (effect_of p) (λ a h. h.0) (block_placed (at_start f) f.body) (function_fits f)
  effects_own (f ∷ fs) (suc g) = effects_own fs g

  pub own_effects : (g : ℕ) → Each (λ a. Own g a.stmt) (effects_at p g)
  own_effects g = effects_own p.functions g

  -- loops are such
  loop_own : (g s : ℕ) → is_loop_at p g s ≡ true → Own g s
  loop_own g s e = each_any (λ a. Own g a.stmt) (λ a. nat_eq a.stmt s && a.is_loop) (Own g s) (effects_at p g) e (own_effects g)
      (λ a own is. subst (Own g) (eqb-true a.stmt s (and_parts (nat_eq a.stmt s) a.is_loop is).0) own)

  site_own : (g : ℕ) (a : TEffect) (u x : VarId) → Own g a.stmt → Own g (site p g a u x)
  site_own g a u x h = by_loop (find (lifts p g u x) (loops_of p g a)) refl
    where
      by_loop : (o : Option ℕ) → find (lifts p g u x) (loops_of p g a) ≡ o → Own g (unwrap_or o a.stmt)
      by_loop None is = h
      by_loop (Some s) is = loop_own g s (each_find (λ t. is_loop_at p g t ≡ true) (lifts p g u x) (loops_of p g a) s is (each_passes (is_loop_at p g) (reverse a.around))).1

  inputs_own : (g : ℕ) (xs : List VarId) → Each (Own g) (input_sites p g xs)
  inputs_own g xs =
      each_flat_map (λ a. Own g a.stmt) (Own g) (λ a. flat_map (λ u. flat_map (λ x. cond (is_input p g a u x) (site p g a u x ∷ []) []) xs) (variables p g))
      (λ a own. each_flat_map (λ u. Unit {0}) (Own g) (λ u. flat_map (λ x. cond (is_input p g a u x) (site p g a u x ∷ []) []) xs)
      (λ u _. each_flat_map (λ x. Unit {0}) (Own g) (λ x. cond (is_input p g a u x) (site p g a u x ∷ []) [])
      (λ x _. each_cond (Own g) (is_input p g a u x) (site p g a u x ∷ []) [] (λ e. (site_own g a u x own, tt)) (λ e. tt)) xs (each_always (λ x. Unit {0}) (λ x. tt) xs))
      (variables p g) (each_always (λ u. Unit {0}) (λ u. tt) (variables p g))) (effects_at p g) (own_effects g)

  -- the sites of a requirement in a function
  abbrev pub AreSites : ℕ → List ℕ → Type 0
  AreSites g ns = Each (Own g) ns × IsSome ns

  with_own : (g : ℕ) (inputs others : List ℕ) → Each (Own g) inputs → Each (Own g) others → Each (AreSites g) (with_inputs inputs others)
  with_own g inputs others h k = each_cond (AreSites g) (is_empty inputs) [] (rising (inputs ++ others) ∷ []) (λ e. tt)
      (λ e. ((each_rising (Own g) (inputs ++ others) (each_append (Own g) inputs others h k), some_rising inputs others e), tt))

  held_own : (q : Policy) → Each (Own q.function) (held p q)
  held_own q = each_mapped (λ a. Own q.function a.stmt) (Own q.function) (λ a. a.stmt) (λ a h. h) (filter (is_held q.kind) (effects_at p q.function))
      (each_filter (λ a. Own q.function a.stmt) (is_held q.kind) (effects_at p q.function) (own_effects q.function))

  own_sites_own : (q : Policy) → Each (AreSites q.function) (own_sites p q)
  own_sites_own q = each_cond (AreSites q.function) (is_empty (held p q)) [] (with_inputs (input_sites p q.function (annotated p q)) (held p q)) (λ e. tt)
      (λ e. with_own q.function (input_sites p q.function (annotated p q)) (held p q) (inputs_own q.function (annotated p q)) (held_own q))

  sites_own : (q : Policy) (g : ℕ) → Each (AreSites g) (function_sites p q g)
  sites_own q g =
      each_append (AreSites g) (cond (nat_eq g q.function) (own_sites p q) []) (flat_map (call_sites p q g) (effects_at p g))
      (each_cond (AreSites g) (nat_eq g q.function) (own_sites p q) [] (λ e. subst (λ f. Each (AreSites f) (own_sites p q)) (sym (eqb-true g q.function e)) (own_sites_own q))
      (λ e. tt)) (each_flat_map (λ a. Own g a.stmt) (AreSites g) (call_sites p q g)
      (λ a own. with_own g (input_sites p g (needed_at p q g a)) (a.stmt ∷ []) (inputs_own g (needed_at p q g a)) (own, tt)) (effects_at p g) (own_effects g))

  -- ---- requirements

  -- its sites stand in its function, and its policy has a number below `n`
  pub record Asks (n : ℕ) (r : TRequirement) : Type 0 where
    pub sites : Each (Own r.function) r.sites
    pub some : IsSome r.sites
    pub policy : r.policy < n

  asks_in : (m n : ℕ) (q : Policy) (g : ℕ) → n < m → Each (Asks m) (required_in p n q g)
  asks_in m n q g h = each_mapped (AreSites g) (Asks m) (λ sites. record { policy = n; function = g; sites = sites })
      (λ sites own. record { sites = own.0; some = own.1; policy = h }) (in_order (function_sites p q g)) (each_in_order (AreSites g) (function_sites p q g) (sites_own q g))

  asks_of : (m n : ℕ) (q : Policy) → n < m → Each (Asks m) (required_of p n q)
  asks_of m n q h = each_flat_map (λ g. Unit {0}) (Asks m) (required_in p n q) (λ g _. asks_in m n q g h) (from 0 (length p.functions))
      (each_always (λ g. Unit {0}) (λ g. tt) (from 0 (length p.functions)))

  asks_from : (m n : ℕ) (qs : List Policy) → n + length qs ≤ m → Each (Asks m) (required_from p n qs)
  asks_from m n [] h = tt
  asks_from m n (q ∷ qs) h = each_append (Asks m) (required_of p n q) (required_from p (n + 1) qs) (asks_of m n q (omega (arith, h))) (asks_from m (n + 1) qs (omega (arith, h)))

  pub asked : Each (Asks (length (policies p))) (requirements p)
  asked = asks_from (length (policies p)) 0 (policies p) (omega arith)
