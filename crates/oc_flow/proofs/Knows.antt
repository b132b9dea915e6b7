-- What is known of a function by its statements is so, where what is known of its callees is so.
use Rattle.std.proofs.Common.{◌≡◌, ◌≢◌, ◌<◌, ◌⊎◌, inl, inr, ◌+◌, ◌++◌, map, ℕ, suc, Bool, true, false, true≢false, List, [], ◌∷◌, Option, Some, None, cond, refl, ap, sym}
use Rattle.std.proofs.lemmas.Bool.{and_from, and_parts, cases_eq}
use Rattle.std.proofs.Common.{◌∙◌, subst, length, arith, append_assoc, filter}
use Rattle.std.specs.Prelude.{◌||◌, ◌&&◌, nat_lt, is_some, slice_set}
use Rattle.std.specs.List.{list_any, list_all}
use Rattle.std.proofs.Math.ListN.{length-set}
use Rattle.std.proofs.lemmas.List.{get_or-set_same, get_or-set_other, get_or_default}
use Rattle.std.proofs.lemmas.Bool.Decides.{nat_tests}
use Rattle.std.proofs.lemmas.Option.{none-some, same_Some}
use Rattle.std.proofs.lemmas.List.Folds.{list_any-append}
use Rattle.std.proofs.Math.Bool.{and-false}
use Rattle.oc_tree.specs.Tree.{TProgram}
use Rattle.oc_tree.specs.declared.tree.VarId.{VarId}
use Rattle.oc_tree.specs.declared.tree.VarId.TheVariants.{Nv, Param, Declared, Returned}
use Rattle.oc_effects.specs.Effects.{TCalled, TEffect, effects_at, params_at}
use Rattle.oc_flow.specs.Variables.{same_variable, is_among, is_variable_of, variables, begins, ends, from}
use Rattle.oc_tree.specs.Members.{IsOf}
use Rattle.oc_laws.proofs.Bools.{both_ways}
use Rattle.oc_laws.proofs.Members.{any_of, in_filter, of_filter}
use Rattle.oc_flow.specs.Flow.{chain, leads_by_value, leads_by_call, leads, flows, receives, brings_by_call, brings}
use Rattle.oc_flow.specs.Known.{number_from, number_in, cell, cell_at, TTable, linked, Links, flows_between, table_flows, TKnown, known_receives, received_at, Knowns, known_at}
use Rattle.oc_flow.specs.Known.{leads_from, leads_to_callee, leads_called, leads_known, brings_from_callee, brings_called, brings_known, is_ready, outer_of, declared_of}
use Rattle.oc_flow.specs.Known.{some_leads, some_brings, KnownBy, KnownIs, Right, Learns, Learning, Below, function_rank}
use Rattle.oc_flow.proofs.Lists.{any_in, any_cong}
use Rattle.oc_flow.proofs.Fixpoint.{Ranked, chain_cong, flow_fix, brings_fix}
use Rattle.oc_flow.proofs.FlowLaw.{ends_at}
use Rattle.oc_flow.proofs.Numbers.{numbered, number_at, number_below}
use Rattle.oc_flow.proofs.Added.{get_or_map, or_false}

-- ---- lists

none_declared : (t : VarId → Bool) → ((s : ℕ) → t (Declared s) ≡ false) → (es : List TEffect) → list_any t (map (λ a. Declared a.stmt) es) ≡ false
none_declared t h [] = refl
none_declared t h (e ∷ es) = ap (λ b. b || list_any t (map (λ a. Declared a.stmt) es)) (h e.stmt) ∙ none_declared t h es

and_swap : (a b : Bool) → a && b ≡ b && a
and_swap true true = refl
and_swap true false = refl
and_swap false true = refl
and_swap false false = refl

-- the variables of a function are the outer ones, and the declared ones
split : (p : TProgram) (f : ℕ) → outer_of (length p.names.nvs) (length (params_at p f)) ++ declared_of (effects_at p f) ≡ variables p f
split p f =
    let a = map Nv (from 0 (length p.names.nvs)) in
    let b = map Param (from 0 (length (params_at p f))) in
    append_assoc a (b ++ (Returned ∷ [])) (declared_of (effects_at p f)) ∙ ap (λ l. a ++ l) (append_assoc b (Returned ∷ []) (declared_of (effects_at p f)))

-- a test that no declared variable passes
outer_any : (p : TProgram) (f : ℕ) (t s : VarId → Bool) → ((x : ℕ) → s (Declared x) ≡ false) → ((v : VarId) → t v ≡ s v)
    → list_any t (outer_of (length p.names.nvs) (length (params_at p f))) ≡ list_any s (variables p f)
outer_any p f t s none same =
    let o = outer_of (length p.names.nvs) (length (params_at p f)) in
    any_cong t s o (λ x i. same x)
    ∙ or_false (list_any s o)
    ∙ ap (λ b. list_any s o || b) (sym (none_declared s none (filter (λ a. a.declares) (effects_at p f))))
    ∙ sym (list_any-append s o (declared_of (effects_at p f)))
    ∙ ap (list_any s) (split p f)

all_at : {A : Type 0} (t : A → Bool) (xs : List A) → list_all t xs ≡ true → (x : A) → IsOf x xs → t x ≡ true
all_at t [] h x i = absurd i
all_at t (y ∷ ys) h x (inl e) = ap t e ∙ (and_parts (t y) (list_all t ys) h).0
all_at t (y ∷ ys) h x (inr i) = all_at t ys (and_parts (t y) (list_all t ys) h).1 x i

-- the two orders of the search for one that brings into a variable
swapped : {A B : Type 0} (P : B → A → Bool) (Q : A → Bool) (es : List B) (vs : List A) → list_any Q (filter (λ u. list_any (λ b. P b u) es) vs) ≡ list_any (λ b. list_any (λ u. P b u && Q u) vs) es
swapped P Q es vs = both_ways (list_any Q (filter (λ u. list_any (λ b. P b u) es) vs)) (list_any (λ b. list_any (λ u. P b u && Q u) vs) es)
    (λ h.
    let u = any_of Q (filter (λ u. list_any (λ b. P b u) es) vs) h in
    let k = of_filter (λ u. list_any (λ b. P b u) es) u.0 vs u.1 in
    let b = any_of (λ b. P b u.0) es k.1 in
    any_in (λ b. list_any (λ u. P b u && Q u) vs) es b.0 b.1 (any_in (λ u. P b.0 u && Q u) vs u.0 k.0 (and_from (P b.0 u.0) (Q u.0) b.2 u.2)))
    (λ h.
    let b = any_of (λ b. list_any (λ u. P b u && Q u) vs) es h in
    let u = any_of (λ u. P b.0 u && Q u) vs b.2 in
    any_in Q (filter (λ u. list_any (λ b. P b u) es) vs) u.0
    (in_filter (λ u. list_any (λ b. P b u) es) u.0 vs u.1 (any_in (λ b. P b u.0) es b.0 b.1 (and_parts (P b.0 u.0) (Q u.0) u.2).0))
    (and_parts (P b.0 u.0) (Q u.0) u.2).1)

length_map : {A B : Type 0} (f : A → B) (xs : List A) → length (map f xs) ≡ length xs
length_map f [] = refl
length_map f (x ∷ xs) = ap suc (length_map f xs)

-- what is received, by variables
received_is : (F : VarId → Bool) (vs : List VarId) (v : VarId) (i : ℕ) → number_in vs v ≡ Some i → received_at (map F vs) (Some i) ≡ F v
received_is F vs v i e =
    let l = number_below vs v i e in
    get_or_default (map F vs) i false (F v) (omega (arith, l, length_map F vs)) ∙ get_or_map F vs i v ∙ ap F (number_at vs v i e)

-- ---- flow

-- what is not numbered is not among the variables
not_among : (vs : List VarId) (v : VarId) → number_in vs v ≡ None → is_among v vs ≡ false
not_among vs v e = go (is_among v vs) refl
  where
    go : (b : Bool) → is_among v vs ≡ b → b ≡ false
    go false h = refl
    go true h = let z = numbered 0 vs v h in absurd (none-some z.0 (sym e ∙ z.1))

is_among_at : (vs : List VarId) (v : VarId) (i : ℕ) → number_in vs v ≡ Some i → is_among v vs ≡ true
is_among_at vs v i e = go (is_among v vs) refl
  where
    absent : (n : ℕ) (ws : List VarId) → is_among v ws ≡ false → number_from n ws v ≡ None
    absent n [] h = refl
    absent n (x ∷ xs) h = by (same_variable v x) h (absent (n + 1) xs)
      where
        by : (b : Bool) → b || is_among v xs ≡ false → (is_among v xs ≡ false → number_from (n + 1) xs v ≡ None) → cond b (Some n) (number_from (n + 1) xs v) ≡ None
        by true h rest = absurd (true≢false h)
        by false h rest = rest h

    go : (b : Bool) → is_among v vs ≡ b → b ≡ true
    go true h = refl
    go false h = absurd (none-some i (sym (absent 0 vs h) ∙ e))

-- what flows is a variable of the table
pub flows_within : (t : TTable) (u v : VarId) → table_flows t u v ≡ true → is_among u t.variables ≡ true
flows_within t u v h = go (number_in t.variables u) refl h
  where
    go : (o : Option ℕ) → number_in t.variables u ≡ o → flows_between t.cells u v o (number_in t.variables v) ≡ true → is_among u t.variables ≡ true
    go None e f = absurd (true≢false (sym f))
    go (Some i) e f = is_among_at t.variables u i e

-- the flow in a table
flows_told : (t : TTable) (step : VarId → VarId → Bool) → Links t (λ a b. chain step t.variables a b) → (u v : VarId)
    → table_flows t u v ≡ is_among u t.variables && (is_among v t.variables && (same_variable u v || chain step t.variables u v))
flows_told t step links u v = go (number_in t.variables u) (number_in t.variables v) refl refl
  where
    vs : List VarId
    vs = t.variables

    go : (a b : Option ℕ) → number_in t.variables u ≡ a → number_in t.variables v ≡ b → flows_between t.cells u v a b
        ≡ is_among u t.variables && (is_among v t.variables && (same_variable u v || chain step t.variables u v))
    go None b ea eb = ap (λ x. x && (is_among v t.variables && (same_variable u v || chain step t.variables u v))) (sym (not_among t.variables u ea))
    go (Some i) None ea eb = sym (and-false (is_among u t.variables)) ∙ ap (λ x. is_among u t.variables && (x && (same_variable u v || chain step t.variables u v))) (sym (not_among t.variables v eb))
    go (Some i) (Some j) ea eb =
        let hu = is_among_at t.variables u i ea in
        let hv = is_among_at t.variables v j eb in
        let l : cell t.cells i j ≡ linked t u v = λ k. cell_at t.cells (sym ea k) (sym eb k) in
        (λ k. same_variable u v || (l ∙ links u v hu hv) k)
        ∙ (λ k. sym hu k && (sym hv k && (same_variable u v || chain step t.variables u v)))

module _ (p : TProgram) (r : Ranked p) (ks : Knowns) (right : Right p ks) where
  -- the leads of a call are those by what is known of its callee
  called_leads : (a : TEffect) (o : Option TCalled) → is_ready ks o ≡ true → (u t : VarId) → leads_called ks a o u t ≡ leads_by_call p (flows p) a o u t
  called_leads a None h u t = refl
  called_leads a (Some c) h u t = go (known_at ks c.function) refl h
    where
      go : (k : Option TKnown) → known_at ks c.function ≡ k → is_some k ≡ true → leads_to_callee k a c u t ≡ leads_by_call p (flows p) a (Some c) u t
      go None e h = absurd (true≢false (sym h))
      go (Some k) e h =
          let is : KnownIs p c.function k = right.each c.function k e in
          let g = c.function in
          ap (list_any (λ x. leads_from k a c x u t)) is.outer
          ∙ outer_any p g (λ x. leads_from k a c x u t) (λ x. begins c x u && list_any (λ y. flows p g x y && ends a c y t) (variables p g)) (λ s. refl)
          (λ x. ap (λ b. begins c x u && b)
          (ap (list_any (λ y. table_flows k.table x y && ends a c y t)) is.outer
          ∙ outer_any p g (λ y. table_flows k.table x y && ends a c y t) (λ y. flows p g x y && ends a c y t) (λ s. and-false (flows p g x (Declared s)))
          (λ y. ap (λ b. b && ends a c y t) (is.flows x y))))

  called_brings : (a : TEffect) (o : Option TCalled) → is_ready ks o ≡ true → (v : VarId) → brings_called ks a o v ≡ brings_by_call p (brings p) a o v
  called_brings a None h v = refl
  called_brings a (Some c) h v = go (known_at ks c.function) refl h
    where
      go : (k : Option TKnown) → known_at ks c.function ≡ k → is_some k ≡ true → brings_from_callee k a c v ≡ brings_by_call p (brings p) a (Some c) v
      go None e h = absurd (true≢false (sym h))
      go (Some k) e h =
          let is : KnownIs p c.function k = right.each c.function k e in
          ap (list_any (λ y. ends a c y v && known_receives k y)) is.outer
          ∙ outer_any p c.function (λ y. ends a c y v && known_receives k y) (λ y. receives p (brings p) c.function y && ends a c y v)
          (λ s. and-false (receives p (brings p) c.function (Declared s)))
          (λ y. and_swap (ends a c y v) (known_receives k y) ∙ ap (λ b. b && ends a c y v) (is.receives y))

  -- what a statement brings is what is known
  pub known_brings : (f : ℕ) (a : TEffect) → IsOf a (effects_at p f) → is_ready ks a.call ≡ true → (v : VarId) → brings_known ks a v ≡ brings p a v
  known_brings f a i h v = ap (λ b. (a.senses && is_variable_of a.target v) || b) (called_brings a a.call h v) ∙ sym (brings_fix p r f a i v)

  module _ (f : ℕ) (below : nat_lt f (length p.functions) ≡ true) (ready : list_all (λ e. is_ready ks e.call) (effects_at p f) ≡ true) (k : TKnown)
      (by : KnownBy (length p.names.nvs) (length (params_at p f)) ks (effects_at p f) k) where
    listed_so : k.table.variables ≡ variables p f
    listed_so = by.variables ∙ split p f

    leads_so : (u t : VarId) → some_leads ks (effects_at p f) u t ≡ leads p (flows p) f u t
    leads_so u t = any_cong (λ e. leads_known ks e u t) (λ a. leads_by_value a u t || leads_by_call p (flows p) a a.call u t) (effects_at p f)
        (λ a i. ap (λ b. leads_by_value a u t || b) (called_leads a a.call (all_at (λ e. is_ready ks e.call) (effects_at p f) ready a i) u t))

    flows_so : (u v : VarId) → table_flows k.table u v ≡ flows p f u v
    flows_so u v =
        let step = some_leads ks (effects_at p f) in
        let links : Links k.table (λ a b. chain step k.table.variables a b) = subst (λ vs. Links k.table (λ a b. chain step vs a b)) (sym by.variables) by.links in
        flows_told k.table step links u v
        ∙ ap (λ vs. is_among u vs && (is_among v vs && (same_variable u v || chain step vs u v))) listed_so
        ∙ (λ i. (sym below i && is_among u (variables p f)) &&
        ((sym below i && is_among v (variables p f)) && (same_variable u v || chain_cong step (leads p (flows p) f) leads_so (variables p f) u v i)))
        ∙ sym (flow_fix p r f u v)

    receives_so : (v : VarId) → known_receives k v ≡ receives p (brings p) f v
    receives_so v = ap (λ rs. received_at rs (number_in k.table.variables v)) by.received ∙ go (number_in k.table.variables v) refl
      where
        vs : List VarId
        vs = k.table.variables

        es : List TEffect
        es = effects_at p f

        F : VarId → Bool
        F y = list_any (λ u. table_flows k.table u y) (filter (some_brings ks es) vs)

        F_is : F v ≡ receives p (brings p) f v
        F_is = swapped (λ e u. brings_known ks e u) (λ u. table_flows k.table u v) es vs
            ∙ any_cong (λ b. list_any (λ u. brings_known ks b u && table_flows k.table u v) vs) (λ b. list_any (λ u. brings p b u && flows p f u v) (variables p f)) es
            (λ b i. any_cong (λ u. brings_known ks b u && table_flows k.table u v) (λ u. brings p b u && flows p f u v) vs
            (λ u m. λ j. known_brings f b i (all_at (λ e. is_ready ks e.call) es ready b i) u j && flows_so u v j)
            ∙ ap (list_any (λ u. brings p b u && flows p f u v)) listed_so)

        none : receives p (brings p) f v ≡ true → is_among v vs ≡ true
        none h =
            let b = any_of (λ b. list_any (λ u. brings p b u && flows p f u v) (variables p f)) es h in
            let u = any_of (λ u. brings p b.0 u && flows p f u v) (variables p f) b.2 in
            let e = ends_at p r f u.0 v (and_parts (brings p b.0 u.0) (flows p f u.0 v) u.2).1 in
            subst (λ l. is_among v l ≡ true) (sym listed_so) (and_parts (nat_lt f (length p.functions)) (is_among v (variables p f)) e).1

        go : (o : Option ℕ) → number_in vs v ≡ o → received_at (map F vs) o ≡ receives p (brings p) f v
        go (Some i) e = received_is F vs v i e ∙ F_is
        go None e = both_ways false (receives p (brings p) f v) (λ h. absurd (true≢false (sym h))) (λ h. absurd (true≢false (sym (none h) ∙ not_among vs v e)))

    pub is_known : KnownIs p f k
    is_known = record { outer = by.outer; variables = listed_so; flows = flows_so; receives = receives_so }

-- ---- learning

module _ (p : TProgram) (r : Ranked p) (fall : (f : ℕ) (a : TEffect) (c : TCalled) → IsOf a (effects_at p f) → a.call ≡ Some c → function_rank p c.function < function_rank p f) where
  -- one whose callees are known gets known
  pub learns_new : (f : ℕ) (ks : Knowns) (k : TKnown) (n q : ℕ) → f < length p.functions → Right p ks → list_all (λ e. is_ready ks e.call) (effects_at p f) ≡ true
      → n ≡ length p.names.nvs → q ≡ length (params_at p f) → KnownBy n q ks (effects_at p f) k → Learns p f ks (slice_set ks f (Some k))
  learns_new f ks k n q h right ready en eq by = record {
    right = record { count = length-set ks f (Some k) ∙ right.count; each = λ g l e. each g l e (cases_eq g f) };
    keeps = λ g s. keeps g s (cases_eq g f);
    learns = λ _. ap is_some here;
  }
    where
      here : known_at (slice_set ks f (Some k)) f ≡ Some k
      here = get_or-set_same ks f (Some k) None (omega (arith, right.count))

      below : nat_lt f (length p.functions) ≡ true
      below = grind (arith, nat_tests)

      is : KnownIs p f k
      is = is_known p r ks right f below ready k (subst (λ m. KnownBy m (length (params_at p f)) ks (effects_at p f) k) en (subst (λ m. KnownBy n m ks (effects_at p f) k) eq by))

      each : (g : ℕ) (l : TKnown) → known_at (slice_set ks f (Some k)) g ≡ Some l → (g ≡ f) ⊎ (g ≢ f) → KnownIs p g l
      each g l e (inl s) = subst (λ i. KnownIs p i l) (sym s) (subst (KnownIs p f) (same_Some k l (sym here ∙ ap (known_at (slice_set ks f (Some k))) (sym s) ∙ e)) is)
      each g l e (inr d) = right.each g l (sym (get_or-set_other ks f g (Some k) None d) ∙ e)

      keeps : (g : ℕ) → is_some (known_at ks g) ≡ true → (g ≡ f) ⊎ (g ≢ f) → is_some (known_at (slice_set ks f (Some k)) g) ≡ true
      keeps g s (inl e) = ap (λ i. is_some (known_at (slice_set ks f (Some k)) i)) e ∙ ap is_some here
      keeps g s (inr d) = ap is_some (get_or-set_other ks f g (Some k) None d) ∙ s

  -- where all callees are known, a function is ready
  ready_all : (ks : Knowns) (es : List TEffect) → ((a : TEffect) (c : TCalled) → IsOf a es → a.call ≡ Some c → is_some (known_at ks c.function) ≡ true) → list_all (λ e. is_ready ks e.call) es ≡ true
  ready_all ks [] h = refl
  ready_all ks (e ∷ es) h = and_from (is_ready ks e.call) (list_all (λ e. is_ready ks e.call) es) (one e.call refl) (ready_all ks es (λ a c i q. h a c (inr i) q))
    where
      one : (o : Option TCalled) → e.call ≡ o → is_ready ks o ≡ true
      one None q = refl
      one (Some c) q = h e c (inl refl) q

  cut : (k i : ℕ) → i < k + 1 → (i < k) ⊎ (i ≡ k)
  cut k i h = grind arith

  pub learns_turn : (i : ℕ) (old now new : Knowns) → i < length p.functions → Learning p i old now → Learns p i now new → Learning p (i + 1) old new
  learns_turn i old now new h t l = record {
    right = l.right;
    keeps = λ g s. l.keeps g (t.keeps g s);
    more = λ d f below m k. by d f below k (cut i f m);
  }
    where
      by : (d f : ℕ) → Below p d old → function_rank p f < d + 1 → (f < i) ⊎ (f ≡ i) → is_some (known_at new f) ≡ true
      by d f below k (inl m) = l.keeps f (t.more d f below m k)
      by d f below k (inr e) = subst (λ g. is_some (known_at new g) ≡ true) (sym e)
          (l.learns (ready_all now (effects_at p i)
          (λ a c o q. t.keeps c.function (below c.function (r.inside i a c o q) (let falls = fall i a c o q in let same : function_rank p f ≡ function_rank p i =
          ap (function_rank p) e in omega (arith, falls, k, same))))))
