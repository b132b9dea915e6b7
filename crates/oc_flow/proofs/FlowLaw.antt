-- The test of flow decides the relation.
use Rattle.std.proofs.Common.{◌≡◌, inl, inr, ℕ, zero, suc, Bool, true, false, true≢false, List, [], ◌∷◌, length, Option, Some, None, refl, sym, ◌∙◌, subst}
use Rattle.std.proofs.lemmas.Bool.{and_from, and_parts, or_left, or_right}
use Rattle.std.specs.Prelude.{◌||◌, ◌&&◌, nat_lt}
use Rattle.std.specs.List.{list_any}
use Rattle.oc_tree.specs.Tree.{TProgram}
use Rattle.oc_tree.specs.declared.tree.VarId.{VarId}
use Rattle.oc_tree.proofs.ReachLaws.{or_elim}
use Rattle.oc_effects.specs.Effects.{TCalled, TEffect, effects_at}
use Rattle.oc_flow.specs.Variables.{is_among, same_variable, variables, is_variable, begins, ends, is_variable_of}
use Rattle.oc_tree.specs.Members.{IsOf}
use Rattle.oc_laws.proofs.Members.{any_of}
use Rattle.oc_flow.specs.Relations.{Flow, itself, by_value, by_call, Brings, by_input, by_callee}
use Rattle.oc_flow.specs.Flow.{Between, chain, leads_by_value, leads_by_call, leads, flow_by, flows_to, flows, receives, brings_by_call, brings_to, brings}
use Rattle.oc_flow.specs.Laws.{Decides}
use Rattle.oc_flow.proofs.Lists.{any_in, same_is, same_itself, among_of, of_among, target_is, is_target}
use Rattle.oc_flow.proofs.Fixpoint.{Ranked, flow_fix, brings_fix}

-- ---- chains

module _ (Q : VarId → Type 0) (R : VarId → VarId → Type 0) (step : VarId → VarId → Bool)
    (direct : (u v : VarId) → Q u → Q v → step u v ≡ true → R u v)
    (on : (u w v : VarId) → R u w → R w v → R u v) where
  -- what has the steps and goes on has the ways
  pub chain_least : (ws : List VarId) → ((w : VarId) → IsOf w ws → Q w) → (u v : VarId) → Q u → Q v → chain step ws u v ≡ true → R u v
  chain_least [] each u v a b h = direct u v a b h
  chain_least (w ∷ ws) each u v a b h =
      let rest = chain_least ws (λ x i. each x (inr i)) in
      let c : Q w = each w (inl refl) in
      or_elim (chain step ws u v) (chain step ws u w && chain step ws w v) h (rest u v a b)
      (λ k. on u w v (rest u w a c (and_parts (chain step ws u w) (chain step ws w v) k).0) (rest w v c b (and_parts (chain step ws u w) (chain step ws w v) k).1))

module _ (step : VarId → VarId → Bool) where
  -- a step is a way
  pub chain_step : (ws : List VarId) (u v : VarId) → step u v ≡ true → chain step ws u v ≡ true
  chain_step [] u v h = h
  chain_step (w ∷ ws) u v h = or_left (chain step ws u v) (chain step ws u w && chain step ws w v) (chain_step ws u v h)

  to_end : (a b : Bool) → a || (a && b) ≡ true → a ≡ true
  to_end true b h = refl
  to_end false b h = h

  from_end : (b c : Bool) → c || (b && c) ≡ true → c ≡ true
  from_end b true h = refl
  from_end true false h = h
  from_end false false h = h

  joined : (d a c xw kw wv wk : Bool)
      → (xw ≡ true → wv ≡ true → d ≡ true) → (xw ≡ true → wk ≡ true → a ≡ true) → (kw ≡ true → wv ≡ true → c ≡ true)
      → xw || (a && kw) ≡ true → wv || (wk && c) ≡ true → d || (a && c) ≡ true
  joined d a c xw kw wv wk f g h p q =
      or_elim xw (a && kw) p
      (λ x. or_elim wv (wk && c) q
      (λ y. or_left d (a && c) (f x y))
      (λ y. or_right d (a && c) (and_from a c (g x (and_parts wk c y).0) (and_parts wk c y).1)))
      (λ x. or_elim wv (wk && c) q
      (λ y. or_right d (a && c) (and_from a c (and_parts a kw x).0 (h (and_parts a kw x).1 y)))
      (λ y. or_right d (a && c) (and_from a c (and_parts a kw x).0 (and_parts wk c y).1)))

  -- ways go on at what may lie between
  pub chain_on : (ws : List VarId) (u w v : VarId) → IsOf w ws → chain step ws u w ≡ true → chain step ws w v ≡ true → chain step ws u v ≡ true
  chain_on [] u w v i p q = absurd i
  chain_on (k ∷ ws) u w v (inl e) p q =
      or_right (chain step ws u v) (chain step ws u k && chain step ws k v) (and_from (chain step ws u k) (chain step ws k v)
      (to_end (chain step ws u k) (chain step ws k k) (subst (λ x. chain step (k ∷ ws) u x ≡ true) e p))
      (from_end (chain step ws k k) (chain step ws k v) (subst (λ x. chain step (k ∷ ws) x v ≡ true) e q)))
  chain_on (k ∷ ws) u w v (inr i) p q =
      joined (chain step ws u v) (chain step ws u k) (chain step ws k v) (chain step ws u w) (chain step ws k w) (chain step ws w v) (chain step ws w k)
      (chain_on ws u w v i) (chain_on ws u w k i) (chain_on ws k w v i) p q

-- ---- flow

module _ (p : TProgram) where
  -- flow goes on
  pub flow_on : {f : ℕ} {u w : VarId} (v : VarId) → Flow p f u w → Flow p f w v → Flow p f u v
  flow_on v (itself h) q = q
  flow_on v (by_value a i h s t r) q = by_value a i h s t (flow_on v r q)
  flow_on v (by_call a c i e h b m n r) q = by_call a c i e h b m n (flow_on v r q)

  -- where flow in callees is flow, leads are flow
  module _ (f : ℕ) (F : Between) (callee : (g : ℕ) (x y : VarId) → F g x y ≡ true → Flow p g x y) where
    lead_flows : (a : TEffect) → IsOf a (effects_at p f) → (o : Option TCalled) → a.call ≡ o → (u t : VarId) → is_variable p f u ≡ true → is_variable p f t ≡ true
        → leads_by_call p F a o u t ≡ true → Flow p f u t
    lead_flows a i None e u t hu ht h = absurd (true≢false (sym h))
    lead_flows a i (Some c) e u t hu ht h =
        let x = any_of (λ x. begins c x u && list_any (λ y. F c.function x y && ends a c y t) (variables p c.function)) (variables p c.function) h in
        let b = (and_parts (begins c x.0 u) (list_any (λ y. F c.function x.0 y && ends a c y t) (variables p c.function)) x.2).0 in
        let y = any_of (λ y. F c.function x.0 y && ends a c y t) (variables p c.function)
        (and_parts (begins c x.0 u) (list_any (λ y. F c.function x.0 y && ends a c y t) (variables p c.function)) x.2).1 in
        by_call a c i e hu b (callee c.function x.0 y.0 (and_parts (F c.function x.0 y.0) (ends a c y.0 t) y.2).0) (and_parts (F c.function x.0 y.0) (ends a c y.0 t) y.2).1 (itself ht)

    leads_flow : (u t : VarId) → is_variable p f u ≡ true → is_variable p f t ≡ true → leads p F f u t ≡ true → Flow p f u t
    leads_flow u t hu ht h =
        let a = any_of (λ a. leads_by_value a u t || leads_by_call p F a a.call u t) (effects_at p f) h in
        or_elim (leads_by_value a.0 u t) (leads_by_call p F a.0 a.0.call u t) a.2
        (λ k. by_value a.0 a.1 hu (and_parts (is_among u a.0.sources) (is_variable_of a.0.target t) k).0
        (target_is a.0.target t (and_parts (is_among u a.0.sources) (is_variable_of a.0.target t) k).1) (itself ht))
        (lead_flows a.0 a.1 a.0.call refl u t hu ht)

    pub by_flows : (u v : VarId) → flow_by p F f u v ≡ true → Flow p f u v
    by_flows u v h =
        let rest = is_variable p f v && (same_variable u v || chain (leads p F f) (variables p f) u v) in
        let hu = (and_parts (is_variable p f u) rest h).0 in
        let k = (and_parts (is_variable p f u) rest h).1 in
        let hv = (and_parts (is_variable p f v) (same_variable u v || chain (leads p F f) (variables p f) u v) k).0 in
        let below = (and_parts (nat_lt f (length p.functions)) (is_among u (variables p f)) hu).0 in
        or_elim (same_variable u v) (chain (leads p F f) (variables p f) u v) (and_parts (is_variable p f v) (same_variable u v || chain (leads p F f) (variables p f) u v) k).1
        (λ e. subst (λ x. Flow p f u x) (same_is u v e) (itself hu))
        (chain_least (λ w. is_variable p f w ≡ true) (Flow p f) (leads p F f) leads_flow (λ a w b. flow_on b) (variables p f)
        (λ w i. and_from (nat_lt f (length p.functions)) (is_among w (variables p f)) below (of_among w (variables p f) i)) u v hu hv)

  -- what the test says at some depth is so
  pub flows_are : (d f : ℕ) (u v : VarId) → flows_to p d f u v ≡ true → Flow p f u v
  unfolding flows_to
  flows_are zero f u v h = absurd (true≢false (sym h))
  flows_are (suc d) f u v h = by_flows f (flows_to p d) (flows_are d) u v h

  module _ (r : Ranked p) where
    -- both ends of a flow are variables
    pub begins_at : (f : ℕ) (u v : VarId) → flows p f u v ≡ true → is_variable p f u ≡ true
    begins_at f u v h = (and_parts (is_variable p f u) (is_variable p f v && (same_variable u v || chain (leads p (flows p) f) (variables p f) u v)) (sym (flow_fix p r f u v) ∙ h)).0

    pub ends_at : (f : ℕ) (u v : VarId) → flows p f u v ≡ true → is_variable p f v ≡ true
    ends_at f u v h =
        let goes = same_variable u v || chain (leads p (flows p) f) (variables p f) u v in
        (and_parts (is_variable p f v) goes (and_parts (is_variable p f u) (is_variable p f v && goes) (sym (flow_fix p r f u v) ∙ h)).1).0

    -- a variable of a function stands in its list
    pub listed : (f : ℕ) (v : VarId) → is_variable p f v ≡ true → IsOf v (variables p f)
    listed f v h = among_of v (variables p f) (and_parts (nat_lt f (length p.functions)) (is_among v (variables p f)) h).1

    -- a lead in front of a flow
    lead_on : (f : ℕ) (u t v : VarId) → is_variable p f u ≡ true → leads p (flows p) f u t ≡ true → flows p f t v ≡ true → flows p f u v ≡ true
    lead_on f u t v hu l h =
        let step = leads p (flows p) f in
        let vs = variables p f in
        let ht = begins_at f t v h in
        let hv = ends_at f t v h in
        let more : chain step vs u v ≡ true = or_elim (same_variable t v) (chain step vs t v)
        (and_parts (is_variable p f v) (same_variable t v || chain step vs t v)
        (and_parts (is_variable p f t) (is_variable p f v && (same_variable t v || chain step vs t v)) (sym (flow_fix p r f t v) ∙ h)).1).1
        (λ e. chain_step step vs u v (subst (λ x. step u x ≡ true) (same_is t v e) l))
        (λ k. chain_on step vs u t v (listed f t ht) (chain_step step vs u t l) k) in
        flow_fix p r f u v ∙ and_from (is_variable p f u) (is_variable p f v && (same_variable u v || chain step vs u v)) hu
        (and_from (is_variable p f v) (same_variable u v || chain step vs u v) hv (or_right (same_variable u v) (chain step vs u v) more))

    pub are_flows : {f : ℕ} {u v : VarId} → Flow p f u v → flows p f u v ≡ true
    are_flows {f} {u} {v} (itself h) =
        let chained = chain (leads p (flows p) f) (variables p f) u u in
        flow_fix p r f u u ∙ and_from (is_variable p f u) (is_variable p f u && (same_variable u u || chained)) h
        (and_from (is_variable p f u) (same_variable u u || chained) h (or_left (same_variable u u) chained (same_itself u)))
    are_flows {f} {u} {v} (by_value {t = t} a i h s e q) =
        let l : leads p (flows p) f u t ≡ true = any_in (λ a. leads_by_value a u t || leads_by_call p (flows p) a a.call u t) (effects_at p f) a i
        (or_left (leads_by_value a u t) (leads_by_call p (flows p) a a.call u t) (and_from (is_among u a.sources) (is_variable_of a.target t) s (is_target a.target t e))) in
        lead_on f u t v h l (are_flows q)
    are_flows {f} {u} {v} (by_call {x = x} {y = y} {t = t} a c i e h b m n q) =
        let g = c.function in
        let inner : flows p g x y ≡ true = are_flows m in
        let ends_so : list_any (λ y. flows p g x y && ends a c y t) (variables p g) ≡ true =
        any_in (λ y. flows p g x y && ends a c y t) (variables p g) y (listed g y (ends_at g x y inner)) (and_from (flows p g x y) (ends a c y t) inner n) in
        let called : leads_by_call p (flows p) a (Some c) u t ≡ true =
        any_in (λ x. begins c x u && list_any (λ y. flows p g x y && ends a c y t) (variables p g)) (variables p g) x (listed g x (begins_at g x y inner))
        (and_from (begins c x u) (list_any (λ y. flows p g x y && ends a c y t) (variables p g)) b ends_so) in
        let l : leads p (flows p) f u t ≡ true = any_in (λ a. leads_by_value a u t || leads_by_call p (flows p) a a.call u t) (effects_at p f) a i
        (or_right (leads_by_value a u t) (leads_by_call p (flows p) a a.call u t) (subst (λ o. leads_by_call p (flows p) a o u t ≡ true) (sym e) called)) in
        lead_on f u t v h l (are_flows q)

    decided : {A : Type 0} (b c : Bool) → b ≡ c → (b ≡ true → A) → (A → b ≡ true) → Decides c A
    decided b true e f g = f e
    decided b false e f g = λ a. true≢false (sym (g a) ∙ e)

    pub flows_decide : (f : ℕ) (u v : VarId) → Decides (flows p f u v) (Flow p f u v)
    flows_decide f u v = decided (flows p f u v) (flows p f u v) refl (flows_are (length p.functions) f u v) are_flows

    -- ---- input

    brings_by_is : (d : ℕ) → ((f : ℕ) (a : TEffect) (v : VarId) → IsOf a (effects_at p f) → brings_to p d a v ≡ true → Brings p f a v) →
        (f : ℕ) (a : TEffect) (v : VarId) → IsOf a (effects_at p f) → (o : Option TCalled) → a.call ≡ o → brings_by_call p (brings_to p d) a o v ≡ true → Brings p f a v
    brings_by_is d deeper f a v i None e h = absurd (true≢false (sym h))
    brings_by_is d deeper f a v i (Some c) e h =
        let bring = brings_to p d in
        let y = any_of (λ y. receives p bring c.function y && ends a c y v) (variables p c.function) h in
        let got = (and_parts (receives p bring c.function y.0) (ends a c y.0 v) y.2).0 in
        let b = any_of (λ b. list_any (λ u. bring b u && flows p c.function u y.0) (variables p c.function)) (effects_at p c.function) got in
        let u = any_of (λ u. bring b.0 u && flows p c.function u y.0) (variables p c.function) b.2 in
        by_callee a b.0 c i e (deeper c.function b.0 u.0 b.1 (and_parts (bring b.0 u.0) (flows p c.function u.0 y.0) u.2).0)
        (flows_are (length p.functions) c.function u.0 y.0 (and_parts (bring b.0 u.0) (flows p c.function u.0 y.0) u.2).1) (and_parts (receives p bring c.function y.0) (ends a c y.0 v) y.2).1

    brings_are : (d f : ℕ) (a : TEffect) (v : VarId) → IsOf a (effects_at p f) → brings_to p d a v ≡ true → Brings p f a v
    unfolding brings_to
    brings_are zero f a v i h = absurd (true≢false (sym h))
    brings_are (suc d) f a v i h = or_elim (a.senses && is_variable_of a.target v) (brings_by_call p (brings_to p d) a a.call v) h
        (λ k. by_input a i (and_parts a.senses (is_variable_of a.target v) k).0 (target_is a.target v (and_parts a.senses (is_variable_of a.target v) k).1))
        (brings_by_is d (brings_are d) f a v i a.call refl)

    -- the statement is one of the function
    of_function : {f : ℕ} {a : TEffect} {v : VarId} → Brings p f a v → IsOf a (effects_at p f)
    of_function (by_input a i s e) = i
    of_function (by_callee a b c i e q m n) = i

    are_brought : {f : ℕ} {a : TEffect} {v : VarId} → Brings p f a v → brings p a v ≡ true
    are_brought {f = f} {v = v} (by_input a i s e) =
        brings_fix p r f a i v ∙ or_left (a.senses && is_variable_of a.target v) (brings_by_call p (brings p) a a.call v) (and_from a.senses (is_variable_of a.target v) s (is_target a.target v e))
    are_brought {f = f} {v = v} (by_callee {u = u} {y = y} a b c i e q m n) =
        let g = c.function in
        let flow : flows p g u y ≡ true = are_flows m in
        let inner : brings p b u ≡ true = are_brought q in
        let one : list_any (λ u. brings p b u && flows p g u y) (variables p g) ≡ true =
        any_in (λ u. brings p b u && flows p g u y) (variables p g) u (listed g u (begins_at g u y flow)) (and_from (brings p b u) (flows p g u y) inner flow) in
        let got : receives p (brings p) g y ≡ true = any_in (λ b. list_any (λ u. brings p b u && flows p g u y) (variables p g)) (effects_at p g) b (of_function q) one in
        let called : brings_by_call p (brings p) a (Some c) v ≡ true =
        any_in (λ y. receives p (brings p) g y && ends a c y v) (variables p g) y (listed g y (ends_at g u y flow)) (and_from (receives p (brings p) g y) (ends a c y v) got n) in
        brings_fix p r f a i v ∙ or_right (a.senses && is_variable_of a.target v) (brings_by_call p (brings p) a a.call v) (subst (λ o. brings_by_call p (brings p) a o v ≡ true) (sym e) called)

    pub brings_decide : (f : ℕ) (a : TEffect) (v : VarId) → IsOf a (effects_at p f) → Decides (brings p a v) (Brings p f a v)
    brings_decide f a v i = decided (brings p a v) (brings p a v) refl (brings_are (length p.functions) f a v i) are_brought
