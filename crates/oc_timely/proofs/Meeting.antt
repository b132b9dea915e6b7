-- What is required meets each target.
use Rattle.std.proofs.Common.{◌≡◌, ◌⊎◌, inl, inr, ℕ, zero, suc, ◌+◌, ◌<◌, ◌≤◌, Bool, true, false, true≢false, List, [], ◌∷◌, ◌++◌, length, Some, nat_eq, nat_lt, cond, refl, sym, ap, ◌∙◌, subst, arith}
use Rattle.std.specs.Prelude.{flat_map, ◌&&◌}
use Rattle.std.specs.List.{list_all}
use Rattle.std.proofs.lemmas.Bool.{eq-eqb, and_from, and_parts, or_parts}
use Rattle.std.proofs.lemmas.List.{length-map}
use Rattle.oc_tree.specs.Tree.{TProgram}
use Rattle.oc_tree.specs.Marked.{TMarked, IsMarked, covers}
use Rattle.oc_tree.specs.declared.tree.VarId.{VarId}
use Rattle.oc_tree.specs.declared.marked.Policy.{Policy}
use Rattle.oc_effects.specs.declared.effect.Note.TheVariants as notes
use Rattle.oc_effects.specs.Effects.{TCalled, TEffect, function_effects, effects, effects_at}
use Rattle.oc_flow.specs.Variables.{from, variables, is_variable, begins}
use Rattle.oc_tree.specs.Members.{IsOf}
use Rattle.oc_flow.specs.Relations.{Flow, itself, by_value, by_call as flow_by_call}
use Rattle.oc_flow.specs.Flow.{flows, brings}
use Rattle.oc_flow.specs.Laws.{Decides, FlowsIsFlow, BringsIsBrings}
use Rattle.oc_flow.proofs.Lists.{any_in, row_within}
use Rattle.oc_needs.specs.Policies.{policies, annotated, held}
use Rattle.oc_needs.specs.Need.{Need, by_annotation, by_call as need_by_call, NeedsIsNeed, is_empty, is_needed_at, needs}
use Rattle.oc_needs.specs.Sites.{site, is_input, input_sites}
use Rattle.oc_needs.specs.Requirements.{TRequirement, rising, is_before, with_list, in_order, with_inputs, own_sites, needed_at, call_sites, function_sites, required_in}
use Rattle.oc_needs.specs.Requirements.{required_of, required_from, requirements}
use Rattle.oc_needs.proofs.Tests.{in_filter}
use Rattle.oc_needs.proofs.Rising.{in_rising}
use Rattle.oc_needs.proofs.NeedLevels.{listed}
use Rattle.oc_timely.specs.Covering.{IsCovering, IsMet}
use Rattle.oc_timely.specs.Within.{AnyOf}
use Rattle.oc_timely.specs.Enough.{Target, by_use, by_tag, by_call, Met, apart, covered}
use Rattle.oc_timely.specs.Steps.{RequirementsMeet}
use Rattle.oc_laws.proofs.Members.{of_left, of_right, in_flat, in_image}
use Rattle.oc_timely.proofs.Inputs.{decide_true, input_is}
use Rattle.oc_timely.proofs.Lifted.{flow_from}
use Rattle.oc_timely.proofs.Asking.{is_policy}
use Rattle.oc_timely.proofs.Needing.{some_there, none_there, is_annotated, held_there, fresh_of, set_by, fresh_annotated, set_held}

-- ---- lists in order

same_before : (ms ns : List ℕ) → is_before ms ns ≡ false → is_before ns ms ≡ false → ms ≡ ns
same_before [] [] e h = refl
same_before [] (n ∷ ns) e h = absurd (true≢false e)
same_before (m ∷ ms) [] e h = absurd (true≢false h)
same_before (m ∷ ms) (n ∷ ns) e h =
    let a = or_parts (nat_lt m n) (nat_eq m n && is_before ms ns) e in
    let b = or_parts (nat_lt n m) (nat_eq n m && is_before ns ms) h in
    let low : n ≤ m = grind (arith, a.0) in
    let high : m ≤ n = grind (arith, b.0) in
    let same : m ≡ n = omega (arith, low, high) in
    let rest = same_before ms ns (sym (ap (λ t. t && is_before ms ns) (eq-eqb m n same)) ∙ a.1) (sym (ap (λ t. t && is_before ns ms) (eq-eqb n m (sym same))) ∙ b.1) in
    λ i. same i ∷ rest i

with_has : (ns : List ℕ) (lists : List (List ℕ)) → IsOf ns (with_list ns lists)
with_has ns [] = inl refl
with_has ns (ms ∷ rest) = by (is_before ns ms) refl (is_before ms ns) refl (with_has ns rest)
  where
    by : (b : Bool) → is_before ns ms ≡ b → (d : Bool) → is_before ms ns ≡ d → IsOf ns (with_list ns rest) → IsOf ns (cond b (ns ∷ (ms ∷ rest)) (cond d (ms ∷ with_list ns rest) (ms ∷ rest)))
    by true e d h o = inl refl
    by false e true h o = inr o
    by false e false h o = inl (same_before ns ms e h)

with_keeps : (ns ks : List ℕ) (lists : List (List ℕ)) → IsOf ks lists → IsOf ks (with_list ns lists)
with_keeps ns ks [] o = absurd o
with_keeps ns ks (ms ∷ rest) o = by (is_before ns ms) (is_before ms ns) o (with_keeps ns ks rest)
  where
    by : (b d : Bool) → IsOf ks (ms ∷ rest) → (IsOf ks rest → IsOf ks (with_list ns rest)) → IsOf ks (cond b (ns ∷ (ms ∷ rest)) (cond d (ms ∷ with_list ns rest) (ms ∷ rest)))
    by true d o r = inr o
    by false true (inl e) r = inl e
    by false true (inr o) r = inr (r o)
    by false false o r = o

in_ordered : (ks : List ℕ) (lists : List (List ℕ)) → IsOf ks lists → IsOf ks (in_order lists)
in_ordered ks [] o = absurd o
in_ordered ks (ns ∷ rest) (inl e) = subst (λ z. IsOf z (with_list ns (in_order rest))) (sym e) (with_has ns (in_order rest))
in_ordered ks (ns ∷ rest) (inr o) = with_keeps ns ks (in_order rest) (in_ordered ks rest o)

pub in_from : (n count g : ℕ) → n ≤ g → g < n + count → IsOf g (from n count)
in_from n zero g l h = absurd (omega (arith, l, h))
in_from n (suc count) g l h = by (nat_eq g n) refl (in_from (n + 1) count g)
  where
    by : (b : Bool) → nat_eq g n ≡ b → (n + 1 ≤ g → g < n + 1 + count → IsOf g (from (n + 1) count)) → IsOf g (n ∷ from (n + 1) count)
    by true e r = inl (grind (arith, e))
    by false e r = let more : n + 1 ≤ g = grind (arith, e, l) in inr (r more (omega (arith, h)))

-- ---- requirements

abbrev required : (n g : ℕ) → List ℕ → TRequirement
required n g sites = record { policy = n; function = g; sites = sites }

in_required : (p : TProgram) (n : ℕ) (qs : List Policy) (q : Policy) → IsOf q qs → (k : ℕ) × ((r : TRequirement) → IsOf r (required_of p k q) → IsOf r (required_from p n qs))
in_required p n [] q o = absurd o
in_required p n (x ∷ qs) q (inl e) = (n, λ r o. of_left r (required_of p n x) (required_from p (n + 1) qs) (subst (λ z. IsOf r (required_of p n z)) e o))
in_required p n (x ∷ qs) q (inr i) = let s = in_required p (n + 1) qs q i in (s.0, λ r o. of_right r (required_of p n x) (required_from p (n + 1) qs) (s.1 r o))

pub is_required : (p : TProgram) (q : Policy) (g : ℕ) (sites : List ℕ) → IsOf q (policies p) → g < length p.functions → IsOf sites (function_sites p q g) →
    (k : ℕ) × IsOf (required k g sites) (requirements p)
is_required p q g sites o l i =
    let s = in_required p 0 (policies p) q o in (
      s.0,
      s.1 (required s.0 g sites) (in_flat (required_in p s.0 q) (from 0 (length p.functions)) g (required s.0 g sites) (in_from 0 (length p.functions) g (omega arith) (omega (arith, l)))
          (in_image (required s.0 g) (in_order (function_sites p q g)) sites (in_ordered sites (function_sites p q g) i))),
    )

with_some : (inputs others : List ℕ) → is_empty inputs ≡ false → IsOf (rising (inputs ++ others)) (with_inputs inputs others)
with_some inputs others e = subst (λ b. IsOf (rising (inputs ++ others)) (cond b [] (rising (inputs ++ others) ∷ []))) (sym e) (inl refl)

pub own_required : (p : TProgram) (q : Policy) → is_empty (held p q) ≡ false → is_empty (input_sites p q.function (annotated p q)) ≡ false →
    IsOf (rising (input_sites p q.function (annotated p q) ++ held p q)) (function_sites p q q.function)
own_required p q h e =
    let sites = rising (input_sites p q.function (annotated p q) ++ held p q) in
    let some = with_some (input_sites p q.function (annotated p q)) (held p q) e in
    let own : IsOf sites (own_sites p q) = subst (λ b. IsOf sites (cond b [] (with_inputs (input_sites p q.function (annotated p q)) (held p q)))) (sym h) some in
    of_left sites (cond (nat_eq q.function q.function) (own_sites p q) []) (flat_map (call_sites p q q.function) (effects_at p q.function))
    (subst (λ b. IsOf sites (cond b (own_sites p q) [])) (sym (eq-eqb q.function q.function refl)) own)

call_required : (p : TProgram) (q : Policy) (g : ℕ) (a : TEffect) → IsOf a (effects_at p g) → is_empty (input_sites p g (needed_at p q g a)) ≡ false →
    IsOf (rising (input_sites p g (needed_at p q g a) ++ a.stmt ∷ [])) (function_sites p q g)
call_required p q g a o e =
    let sites = rising (input_sites p g (needed_at p q g a) ++ a.stmt ∷ []) in
    of_right sites (cond (nat_eq g q.function) (own_sites p q) []) (flat_map (call_sites p q g) (effects_at p g))
    (in_flat (call_sites p q g) (effects_at p g) a sites o (with_some (input_sites p g (needed_at p q g a)) (a.stmt ∷ []) e))

-- ---- meeting

pub all_of : (t : ℕ → Bool) (xs : List ℕ) (x : ℕ) → list_all t xs ≡ true → IsOf x xs → t x ≡ true
all_of t [] x h o = absurd o
all_of t (y ∷ ys) x h (inl e) = ap t e ∙ (and_parts (t y) (list_all t ys) h).0
all_of t (y ∷ ys) x h (inr o) = all_of t ys x (and_parts (t y) (list_all t ys) h).1 o

decided : (b : Bool) (A : Type 0) → Decides b A → b ≡ true → A
decided true A d e = d
decided false A d e = absurd (true≢false (sym e))

flow_to : (p : TProgram) (f : ℕ) (u v : VarId) → Flow p f u v → is_variable p f v ≡ true
flow_to p f u v (itself k) = k
flow_to p f u v (by_value a i k s t r) = flow_to p f _ v r
flow_to p f u v (flow_by_call a c i s k b r e t) = flow_to p f _ v t

need_known : (p : TProgram) (q : Policy) (f : ℕ) (w : VarId) → Need p q f w → is_variable p f w ≡ true
need_known p q f w (by_annotation o n g fl) = flow_from p _ _ _ fl
need_known p q f w (need_by_call a c i e n b g fl) = flow_from p _ _ _ fl

module _ (flow : FlowsIsFlow) (bring : BringsIsBrings) (need : NeedsIsNeed) (m : TMarked) (marked : IsMarked m) (c : IsCovering m) (f : ℕ) where
  abbrev p : TProgram
  p = m.program

  pub site_in : (xs : List VarId) (b : TEffect) (u x : VarId) → IsOf b (effects_at p f) → IsOf x xs → is_input p f b u x ≡ true → IsOf (site p f b u x) (input_sites p f xs)
  site_in xs b u x i o t =
      let fl = decided (flows p f u x) (Flow p f u x) (flow p m.groups marked.checked f u x) (and_parts (brings p b u) (flows p f u x) t).1 in
      let known = listed p f u (flow_from p f u x fl) in
      in_flat (λ (a : TEffect). flat_map (λ (u : VarId). flat_map (λ (x : VarId). cond (is_input p f a u x) (site p f a u x ∷ []) []) xs) (variables p f)) (effects_at p f) b (site p f b u x) i
      (in_flat (λ (u : VarId). flat_map (λ (x : VarId). cond (is_input p f b u x) (site p f b u x ∷ []) []) xs) (variables p f) u (site p f b u x) known
      (in_flat (λ (x : VarId). cond (is_input p f b u x) (site p f b u x ∷ []) []) xs x (site p f b u x) o
      (subst (λ t. IsOf (site p f b u x) (cond t (site p f b u x ∷ []) [])) (sym t) (inl refl))))

  meets : (a : TEffect) (x : VarId) (xs : List VarId) (others : List ℕ) → IsOf x xs → IsOf a.stmt others →
      (is_empty (input_sites p f xs) ≡ false → (k : ℕ) × IsOf (required k f (rising (input_sites p f xs ++ others))) (requirements p)) → (c.guarded f ≡ true) ⊎ Met m f a x
  meets a x xs others o i asks = by (is_empty (input_sites p f xs)) refl
    where
      of : (k : ℕ) → (c.guarded f ≡ true) ⊎ IsMet m (required k f (rising (input_sites p f xs ++ others))) → (c.guarded f ≡ true) ⊎ Met m f a x
      of k (inl g) = inl g
      of k (inr met) = inr (covered met.region met.one met.there
          (all_of (covers p met.region) (rising (input_sites p f xs ++ others)) a.stmt met.covered (in_rising a.stmt (input_sites p f xs ++ others) (of_right a.stmt (input_sites p f xs) others i)))
          (λ b u j t. all_of (covers p met.region) (rising (input_sites p f xs ++ others)) (site p f b u x) met.covered
          (in_rising (site p f b u x) (input_sites p f xs ++ others) (of_left (site p f b u x) (input_sites p f xs) others (site_in xs b u x j o t)))))

      by : (e : Bool) → is_empty (input_sites p f xs) ≡ e → (c.guarded f ≡ true) ⊎ Met m f a x
      by true e = inr (apart (λ b u j br fl. none_there (input_sites p f xs) (site p f b u x) e (site_in xs b u x j o (input_is flow bring p m.groups marked.checked f b u x j br fl))))
      by false e = let r = asks e in of r.0 (c.met (required r.0 f (rising (input_sites p f xs ++ others))) r.1)

  there_is : (a : TEffect) → AnyOf p f a → f < length p.functions
  there_is a i = omega (arith, row_within (effects p) f a i, length-map p.functions (function_effects p))

  -- in the policy's own function
  own_meets : (q : Policy) (a : TEffect) (x : VarId) → q.function ≡ f → AnyOf p f a → IsOf q (policies p) → IsOf x (annotated p q) → IsOf a.stmt (held p q) → (c.guarded f ≡ true) ⊎ Met m f a x
  own_meets q a x e i o k h =
      meets a x (annotated p q) (held p q) k h
      (λ n. is_required p q f (rising (input_sites p f (annotated p q) ++ held p q)) o (there_is a i)
      (subst (λ g. IsOf (rising (input_sites p g (annotated p q) ++ held p q)) (function_sites p q g)) e
      (own_required p q (some_there (held p q) a.stmt h) (subst (λ g. is_empty (input_sites p g (annotated p q)) ≡ false) (sym e) n))))

  -- at a call
  call_meets : (q : Policy) (a : TEffect) (d : TCalled) (x y : VarId) → AnyOf p f a → IsOf q (policies p) → a.call ≡ Some d → Need p q d.function y → begins d y x ≡ true →
      (c.guarded f ≡ true) ⊎ Met m f a x
  call_meets q a d x y i o e n b = by (is_variable p f x) refl
    where
      by : (k : Bool) → is_variable p f x ≡ k → (c.guarded f ≡ true) ⊎ Met m f a x
      by false k = inr (apart (λ g u j br fl. true≢false (sym (flow_to p f u x fl) ∙ k)))
      by true k =
          let test : needs p q d.function y ≡ true = decide_true (needs p q d.function y) (Need p q d.function y) (need p m.groups marked.checked q d.function y) n in
          let some : is_needed_at p (needs p q) (Some d) x ≡ true =
          any_in (λ y. needs p q d.function y && begins d y x) (variables p d.function) y (listed p d.function y (need_known p q d.function y n))
          (and_from (needs p q d.function y) (begins d y x) test b) in
          let needed : IsOf x (needed_at p q f a) = in_filter (is_needed_at p (needs p q) a.call) x (variables p f) (listed p f x k) (ap (λ z. is_needed_at p (needs p q) z x) e ∙ some) in
          meets a x (needed_at p q f a) (a.stmt ∷ []) needed (inl refl)
          (λ z. is_required p q f (rising (input_sites p f (needed_at p q f a) ++ a.stmt ∷ [])) o (there_is a i) (call_required p q f a i z))

  pub target_met : (a : TEffect) (x : VarId) → AnyOf p f a → Target p f a x → (c.guarded f ≡ true) ⊎ Met m f a x
  target_met a x i (by_use o t) = own_meets (fresh_of f x) a x refl i o (fresh_annotated p f x o) (held_there p (fresh_of f x) a i t)
  target_met a x i (by_tag k e) =
      own_meets (set_by f k) a x refl i (is_policy p f a (notes.Consistent x k) i e) (is_annotated p (set_by f k) a (notes.Consistent x k) i e refl) (held_there p (set_by f k) a i (set_held k x a e))
  target_met a x i (by_call q d o e n b) = call_meets q a d x _ i o e n b

pub requirements_meet : FlowsIsFlow → BringsIsBrings → NeedsIsNeed → RequirementsMeet
requirements_meet flow bring need m marked c f a x i t = target_met flow bring need m marked c f a x i t
