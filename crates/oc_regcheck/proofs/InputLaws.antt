-- Each requirement has an input, and those that the code finds are those of the definition.
use Rattle.std.proofs.Common.{◌≡◌, ◌<◌, ◌≤◌, ℕ, zero, suc, ◌+◌, Bool, true, false, true≢false, ◌⊎◌, inl, inr, List, [], ◌∷◌, ◌++◌, length, drop, Option, Some, None, cond}
use Rattle.std.proofs.Common.{refl, ap, sym, ◌∙◌, subst, nat_le, arith}
use Rattle.std.specs.Prelude.{◌&&◌, ◌||◌, not, flat_map, nat_eq, option_to_list, slice_get}
use Rattle.std.specs.List.{list_any}
use Rattle.std.proofs.Math.ListN.{get_or}
use Rattle.std.proofs.lemmas.Bool.{eqb-true, eq-eqb}
use Rattle.std.proofs.lemmas.List.{append-nil, drop_more, drop_all}
use Rattle.oc_tree.specs.Tree.{TProgram}
use Rattle.oc_tree.specs.Members.{IsOf}
use Rattle.oc_tree.specs.Checked.{Group, IsChecked}
use Rattle.oc_tree.specs.declared.tree.VarId.{VarId}
use Rattle.oc_tree.specs.declared.marked.Policy.{Policy}
use Rattle.oc_effects.specs.Effects.{TEffect, effects_at}
use Rattle.oc_flow.specs.Variables.{from, variables}
use Rattle.oc_needs.specs.Policies.{policies, annotated, held}
use Rattle.oc_needs.specs.Sites.{input_sites}
use Rattle.oc_needs.specs.Need.{is_empty, needs}
use Rattle.oc_needs.specs.Requirements.{TRequirement, rising, is_before, with_list, in_order, with_inputs, own_sites, needed_at, call_sites, function_sites, required_in}
use Rattle.oc_needs.specs.Requirements.{required_of, required_from, requirements}
use Rattle.oc_needs.specs.Code.{sources, all_sites_once, rows_of, needed_in_call, needed_itself}
use Rattle.oc_laws.proofs.Members.{image_of}
use Rattle.oc_regcheck.specs.Inputs.{same_sites, inputs_where, own_inputs, call_inputs, inputs_in, inputs, front, lowest_input, way_inputs, call_way, call_ways, all_ways}
use Rattle.oc_needs.proofs.NeedLevels.{in_call_is, needs_past}
use Rattle.oc_needs.proofs.Rising.{Within, in_rising}
use Rattle.oc_regcheck.proofs.Members.{from_below}
use Rattle.oc_needs.proofs.RequiredLaw.{no_inputs}
use Rattle.oc_needs.proofs.SitesLaw.{sites_are}
use Rattle.oc_needs.proofs.SitesOnce.{in_front, in_back, of_either, in_join, of_join, same_inputs, same_rising, all_in, all_back}

-- ---- sites that are the same

same_itself : (ns : List ℕ) → same_sites ns ns ≡ true
same_itself [] = refl
same_itself (n ∷ ns) = ap (λ b. b && same_sites ns ns) (eq-eqb n n refl) ∙ same_itself ns

pub longer : (ls rs : List ℕ) (i : ℕ) → i < length ls → length rs ≤ i → same_sites (drop i ls) (drop i rs) ≡ false
longer ls rs i h k =
    ap (λ xs. same_sites xs (drop i rs)) (drop_more ls i 0 h) ∙ ap (λ ys. same_sites (get_or ls i 0 ∷ drop (i + 1) ls) ys) (drop_all i rs k)

rest_same : (n : ℕ) (rs : List ℕ) → same_sites [] (drop n rs) ≡ nat_le (length rs) n
rest_same zero [] = grind arith
rest_same (suc n) [] = grind arith
rest_same zero (r ∷ rs) = grind arith
rest_same (suc n) (r ∷ rs) = rest_same n rs ∙ (grind arith)

pub ended : (ls rs : List ℕ) (i : ℕ) → length ls ≤ i → i ≤ length ls → same_sites (drop i ls) (drop i rs) ≡ nat_le (length rs) (length ls)
ended ls rs i h k =
    let e : i ≡ length ls = omega arith in
    ap (λ xs. same_sites xs (drop i rs)) (drop_all i ls h) ∙ (rest_same i rs ∙ ap (λ n. nat_le (length rs) n) e)

-- ---- a way has inputs

has_input : (sites ms others : List ℕ) → IsOf sites (with_inputs ms others) → (n : ℕ) × IsOf n (inputs_where sites ms others)
has_input sites [] others o = absurd o
has_input sites (m ∷ ms) others (inr o) = absurd o
has_input sites (m ∷ ms) others (inl e) =
    let same : same_sites sites (rising ((m ∷ ms) ++ others)) ≡ true = subst (λ ns. same_sites sites ns ≡ true) e (same_itself sites) in
    (m, subst (λ b. IsOf m (cond (b || false) (m ∷ ms) [])) (sym same) (inl refl))

of_with_list : (x n : List ℕ) (ns : List (List ℕ)) → IsOf x (with_list n ns) → (x ≡ n) ⊎ IsOf x ns
of_with_list x n [] h = h
of_with_list x n (m ∷ ms) h = by (is_before n m) (is_before m n) h (of_with_list x n ms)
  where
    behind : (IsOf x (with_list n ms) → (x ≡ n) ⊎ IsOf x ms) → IsOf x (m ∷ with_list n ms) → (x ≡ n) ⊎ IsOf x (m ∷ ms)
    behind rest (inl e) = inr (inl e)
    behind rest (inr o) = one_more (rest o)
      where
        one_more : (x ≡ n) ⊎ IsOf x ms → (x ≡ n) ⊎ IsOf x (m ∷ ms)
        one_more (inl e) = inl e
        one_more (inr i) = inr (inr i)

    by : (b c : Bool) → IsOf x (cond b (n ∷ (m ∷ ms)) (cond c (m ∷ with_list n ms) (m ∷ ms))) → (IsOf x (with_list n ms) → (x ≡ n) ⊎ IsOf x ms) → (x ≡ n) ⊎ IsOf x (m ∷ ms)
    by true c o rest = o
    by false true o rest = behind rest o
    by false false o rest = inr o

of_in_order : (x : List ℕ) (ns : List (List ℕ)) → IsOf x (in_order ns) → IsOf x ns
of_in_order x [] h = h
of_in_order x (n ∷ ns) h = by (of_with_list x n (in_order ns) h) (of_in_order x ns)
  where
    by : (x ≡ n) ⊎ IsOf x (in_order ns) → (IsOf x (in_order ns) → IsOf x ns) → IsOf x (n ∷ ns)
    by (inl e) rest = inl e
    by (inr o) rest = inr (rest o)

module _ (p : TProgram) where
  in_ways : (q : Policy) (g : ℕ) (sites : List ℕ) → IsOf sites (function_sites p q g) → (n : ℕ) × IsOf n (inputs_in p q g sites)
  in_ways q g sites o = by (of_either sites (cond (nat_eq g q.function) (own_sites p q) []) (flat_map (call_sites p q g) (effects_at p g)) o)
    where
      own : (b e : Bool) → IsOf sites (cond b (cond e [] (with_inputs (input_sites p q.function (annotated p q)) (held p q))) [])
          → (n : ℕ) × IsOf n (cond b (cond e [] (inputs_where sites (input_sites p q.function (annotated p q)) (held p q))) [])
      own true true i = absurd i
      own true false i = has_input sites (input_sites p q.function (annotated p q)) (held p q) i
      own false e i = absurd i

      by : IsOf sites (cond (nat_eq g q.function) (own_sites p q) []) ⊎ IsOf sites (flat_map (call_sites p q g) (effects_at p g)) → (n : ℕ) × IsOf n (inputs_in p q g sites)
      by (inl i) = let n = own (nat_eq g q.function) (is_empty (held p q)) i in
          (n.0, in_front n.0 (cond (nat_eq g q.function) (own_inputs p q sites) []) (flat_map (call_inputs p q g sites) (effects_at p g)) n.1)
      by (inr i) =
          let a = of_join (call_sites p q g) sites (effects_at p g) i in
          let n = has_input sites (input_sites p g (needed_at p q g a.0)) (a.0.stmt ∷ []) a.2 in (
            n.0,
            in_back n.0 (cond (nat_eq g q.function) (own_inputs p q sites) []) (flat_map (call_inputs p q g sites) (effects_at p g))
                (in_join (call_inputs p q g sites) n.0 a.0 (effects_at p g) a.1 n.1),
          )

  -- the policy of a requirement
  record HasPolicy (n : ℕ) (qs : List Policy) (r : TRequirement) : Type 0 where
    pub place : ℕ
    pub policy : Policy
    pub number : r.policy ≡ n + place
    pub there : slice_get qs place ≡ Some policy
    pub sites : IsOf r.sites (function_sites p policy r.function)
    pub function : IsOf r.function (from 0 (length p.functions))

  of_required : (n : ℕ) (q : Policy) (r : TRequirement) → IsOf r (required_of p n q) → (r.policy ≡ n) × IsOf r.sites (function_sites p q r.function) × IsOf r.function (from 0 (length p.functions))
  of_required n q r o =
      let g = of_join (required_in p n q) r (from 0 (length p.functions)) o in
      let s = image_of (λ sites. record { policy = n; function = g.0; sites = sites }) (in_order (function_sites p q g.0)) r g.2 in
      let i = of_in_order s.0 (function_sites p q g.0) s.1 in
      let f : r.function ≡ g.0 = ap (λ (x : TRequirement). x.function) s.2 in (
        ap (λ (x : TRequirement). x.policy) s.2,
        subst (λ k. IsOf r.sites (function_sites p q k)) (sym f)
            (subst (λ ss. IsOf ss (function_sites p q g.0)) (sym (ap (λ (x : TRequirement). x.sites) s.2)) i),
        subst (λ k. IsOf k (from 0 (length p.functions))) (sym f) g.1,
      )

  of_from : (n : ℕ) (qs : List Policy) (r : TRequirement) → IsOf r (required_from p n qs) → HasPolicy n qs r
  of_from n [] r o = absurd o
  of_from n (q ∷ qs) r o = by (of_either r (required_of p n q) (required_from p (n + 1) qs) o) (of_from (n + 1) qs r)
    where
      by : IsOf r (required_of p n q) ⊎ IsOf r (required_from p (n + 1) qs) → (IsOf r (required_from p (n + 1) qs) → HasPolicy (n + 1) qs r) → HasPolicy n (q ∷ qs) r
      by (inl i) rest = let h = of_required n q r i in record { place = 0; policy = q; number = (let e = h.0 in omega (arith, e)); there = refl; sites = h.1; function = h.2 }
      by (inr i) rest = let h = rest i in record { place = suc h.place; policy = h.policy; number = (let e = h.number in omega (arith, e)); there = h.there; sites = h.sites; function = h.function }

  some_front : (n : ℕ) (ns : List ℕ) → IsOf n ns → front ns ≡ None → ⊥
  some_front n [] o e = o
  some_front n (m ∷ ms) o e = true≢false (ap is_there e)
    where
      is_there : Option ℕ → Bool
      is_there None = false
      is_there (Some x) = true

  -- each requirement has an input
  pub input_there : (r : TRequirement) → IsOf r (requirements p) → lowest_input p r ≡ None → ⊥
  input_there r o =
      let h = of_from 0 (policies p) r o in
      let same : r.policy ≡ h.place = (let e = h.number in omega (arith, e)) in
      let n = in_ways h.policy r.function r.sites h.sites in
      let one : IsOf n.0 (inputs p r) = in_join (λ q. inputs_in p q r.function r.sites) n.0 h.policy (option_to_list (slice_get (policies p) r.policy))
      (subst (λ o. IsOf h.policy (option_to_list o)) (sym (ap (slice_get (policies p)) same ∙ h.there)) (inl refl)) n.1 in
      some_front n.0 (rising (inputs p r)) (in_rising n.0 (inputs p r) one)

  pub function_small : (r : TRequirement) → IsOf r (requirements p) → r.function < length p.functions
  function_small r o = let k = from_below r.function 0 (length p.functions) (of_from 0 (policies p) r o).function in omega (arith, k)

-- ---- by the policy of a requirement

pub inputs_some : (p : TProgram) (r : TRequirement) (all : List Policy) (q : Policy) → all ≡ policies p → slice_get all r.policy ≡ Some q → inputs_in p q r.function r.sites ≡ inputs p r
inputs_some p r all q e h =
    let found : slice_get (policies p) r.policy ≡ Some q = ap (λ (qs : List Policy). slice_get qs r.policy) (sym e) ∙ h in
    sym (append-nil (inputs_in p q r.function r.sites)) ∙ sym (ap (λ o. flat_map (λ x. inputs_in p x r.function r.sites) (option_to_list o)) found)

pub inputs_none : (p : TProgram) (r : TRequirement) (all : List Policy) → all ≡ policies p → slice_get all r.policy ≡ None → inputs p r ≡ []
inputs_none p r all e h =
    let found : slice_get (policies p) r.policy ≡ None = ap (λ (qs : List Policy). slice_get qs r.policy) (sym e) ∙ h in
    ap (λ o. flat_map (λ x. inputs_in p x r.function r.sites) (option_to_list o)) found

-- ---- what the code finds

in_where : (sites ms ns others : List ℕ) → Within ms ns → Within ns ms → Within (inputs_where sites ms others) (inputs_where sites ns others)
in_where sites ms ns others f g = λ x o. subst (λ l. IsOf x (cond (list_any (same_sites sites) l) ns [])) (same_inputs ms ns others f g) (by x (list_any (same_sites sites) (with_inputs ms others)) o)
  where
    by : (x : ℕ) (b : Bool) → IsOf x (cond b ms []) → IsOf x (cond b ns [])
    by x true o = f x o
    by x false o = absurd o

in_both : (ks ms ls ns : List ℕ) → Within ks ls → Within ms ns → Within (ks ++ ms) (ls ++ ns)
in_both ks ms ls ns f g = λ x o. by x (of_either x ks ms o)
  where
    by : (x : ℕ) → IsOf x ks ⊎ IsOf x ms → IsOf x (ls ++ ns)
    by x (inl i) = in_front x ls ns (f x i)
    by x (inr i) = in_back x ls ns (g x i)

in_all : {A : Type 0} (f g : A → List ℕ) (xs : List A) → ((x : A) → Within (f x) (g x)) → Within (flat_map f xs) (flat_map g xs)
in_all f g xs h = λ n o. (let x = of_join f n xs o in in_join g n x.0 xs x.1 (h x.0 n x.2))

module _ (p : TProgram) (groups : List Group) (c : IsChecked p groups) where
  into : (g : ℕ) (xs : List VarId) → Within (all_sites_once p g xs (sources p g (effects_at p g))) (input_sites p g xs)
  into g xs = subst (Within (all_sites_once p g xs (sources p g (effects_at p g)))) (sites_are p groups c g xs) (all_in p g xs (sources p g (effects_at p g)))

  back : (g : ℕ) (xs : List VarId) → Within (input_sites p g xs) (all_sites_once p g xs (sources p g (effects_at p g)))
  back g xs = subst (λ ns. Within ns (all_sites_once p g xs (sources p g (effects_at p g)))) (sites_are p groups c g xs) (all_back p g xs (sources p g (effects_at p g)))

  none_where : (g : ℕ) (others sites : List ℕ) → inputs_where sites (input_sites p g []) others ≡ []
  none_where g others sites = ap (λ ns. inputs_where sites ns others) (no_inputs p groups c g)

  own_way : (q : Policy) (g : ℕ) (sites : List ℕ) → inputs_where sites (input_sites p g (needed_itself p q g)) (held p q) ≡ cond (nat_eq g q.function) (own_inputs p q sites) []
  own_way q g sites = by (nat_eq g q.function) refl (is_empty (held p q))
    where
      by : (t : Bool) → nat_eq g q.function ≡ t → (e : Bool) → inputs_where sites (input_sites p g (cond (t && not e) (annotated p q) [])) (held p q)
          ≡ cond t (cond e [] (inputs_where sites (input_sites p q.function (annotated p q)) (held p q))) []
      by false i e = none_where g (held p q) sites
      by true i true = none_where g (held p q) sites
      by true i false = ap (λ f. inputs_where sites (input_sites p f (annotated p q)) (held p q)) (eqb-true g q.function i)

  call_same : (q : Policy) (g : ℕ) (sites : List ℕ) (a : TEffect) → inputs_where sites (input_sites p g (needed_in_call (rows_of p (needs p q)) (variables p g) a.call))
      (a.stmt ∷ []) ≡ call_inputs p q g sites a
  call_same q g sites a = ap (λ xs. inputs_where sites (input_sites p g xs) (a.stmt ∷ [])) (in_call_is p (needs p q) (needs_past p q (length p.functions)) (variables p g) a.call)

  way_into : (g : ℕ) (xs : List VarId) (others sites : List ℕ) → Within (way_inputs p g xs others sites) (inputs_where sites (input_sites p g xs) others)
  way_into g xs others sites = in_where sites (all_sites_once p g xs (sources p g (effects_at p g))) (input_sites p g xs) others (into g xs) (back g xs)

  way_back : (g : ℕ) (xs : List VarId) (others sites : List ℕ) → Within (inputs_where sites (input_sites p g xs) others) (way_inputs p g xs others sites)
  way_back g xs others sites = in_where sites (input_sites p g xs) (all_sites_once p g xs (sources p g (effects_at p g))) others (back g xs) (into g xs)

  pub ways_are : (q : Policy) (g : ℕ) (sites : List ℕ) → rising (all_ways p q (rows_of p (needs p q)) g sites) ≡ rising (inputs_in p q g sites)
  ways_are q g sites =
      let rows = rows_of p (needs p q) in
      let xs : TEffect → List VarId = λ a. needed_in_call rows (variables p g) a.call in
      same_rising (all_ways p q rows g sites) (inputs_in p q g sites)
      (in_both (way_inputs p g (needed_itself p q g) (held p q) sites) (call_ways p g rows sites (effects_at p g)) (cond (nat_eq g q.function) (own_inputs p q sites) [])
      (flat_map (call_inputs p q g sites) (effects_at p g))
      (subst (Within (way_inputs p g (needed_itself p q g) (held p q) sites)) (own_way q g sites) (way_into g (needed_itself p q g) (held p q) sites))
      (in_all (call_way p g rows sites) (call_inputs p q g sites) (effects_at p g) (λ a. subst (Within (call_way p g rows sites a)) (call_same q g sites a) (way_into g (xs a) (a.stmt ∷ []) sites))))
      (in_both (cond (nat_eq g q.function) (own_inputs p q sites) []) (flat_map (call_inputs p q g sites) (effects_at p g)) (way_inputs p g (needed_itself p q g) (held p q) sites)
      (call_ways p g rows sites (effects_at p g))
      (subst (λ ns. Within ns (way_inputs p g (needed_itself p q g) (held p q) sites)) (own_way q g sites) (way_back g (needed_itself p q g) (held p q) sites))
      (in_all (call_inputs p q g sites) (call_way p g rows sites) (effects_at p g)
      (λ a. subst (λ ns. Within ns (call_way p g rows sites a)) (call_same q g sites a) (way_back g (xs a) (a.stmt ∷ []) sites))))
