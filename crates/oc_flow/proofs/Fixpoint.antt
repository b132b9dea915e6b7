-- Calls go no deeper than there are functions, so the flow of a function is that by the flow of its callees.
use Rattle.std.proofs.Common.{◌≡◌, ◌<◌, ℕ, zero, suc, Bool, false, List, [], ◌∷◌, length, Option, Some, None, refl, subst, arith}
use Rattle.std.specs.Prelude.{◌||◌, ◌&&◌, nat_lt}
use Rattle.std.specs.List.{list_any}
use Rattle.oc_tree.specs.Tree.{TProgram}
use Rattle.oc_tree.specs.declared.tree.VarId.{VarId}
use Rattle.oc_effects.specs.Effects.{TCalled, TEffect, effects_at}
use Rattle.oc_flow.specs.Variables.{is_among, same_variable, variables, is_variable, begins, ends, is_variable_of}
use Rattle.oc_tree.specs.Members.{IsOf}
use Rattle.oc_flow.specs.Flow.{Between, chain, leads_by_value, leads_by_call, leads, flow_by, flows_to, flows, Bringing, receives, brings_by_call, brings_by, brings_to, brings}
use Rattle.oc_flow.proofs.Lists.{any_cong}

-- a number for each function, which falls along calls
pub record Ranked (p : TProgram) : Type 0 where
  pub rank : ℕ → ℕ
  pub small : (f : ℕ) → f < length p.functions → rank f < length p.functions
  pub within : (f : ℕ) (a : TEffect) → IsOf a (effects_at p f) → f < length p.functions
  pub inside : (f : ℕ) (a : TEffect) (c : TCalled) → IsOf a (effects_at p f) → a.call ≡ Some c → c.function < length p.functions
  pub falls : (f : ℕ) (a : TEffect) (c : TCalled) → IsOf a (effects_at p f) → a.call ≡ Some c → rank c.function < rank f

-- steps that are the same give the same ways
pub chain_cong : (s t : VarId → VarId → Bool) → ((u v : VarId) → s u v ≡ t u v) → (ws : List VarId) (u v : VarId) → chain s ws u v ≡ chain t ws u v
chain_cong s t h [] u v = h u v
chain_cong s t h (w ∷ ws) u v = λ i. chain_cong s t h ws u v i || (chain_cong s t h ws u w i && chain_cong s t h ws w v i)

module _ (p : TProgram) (f : ℕ) (F G : Between) (same : (a : TEffect) (c : TCalled) → IsOf a (effects_at p f) → a.call ≡ Some c → (x y : VarId) → F c.function x y ≡ G c.function x y) where
  call_cong : (a : TEffect) → IsOf a (effects_at p f) → (o : Option TCalled) → a.call ≡ o → (u t : VarId) → leads_by_call p F a o u t ≡ leads_by_call p G a o u t
  call_cong a i None e u t = refl
  call_cong a i (Some c) e u t =
      any_cong (λ x. begins c x u && list_any (λ y. F c.function x y && ends a c y t) (variables p c.function))
      (λ x. begins c x u && list_any (λ y. G c.function x y && ends a c y t) (variables p c.function)) (variables p c.function)
      (λ x m. λ k. begins c x u && any_cong (λ y. F c.function x y && ends a c y t) (λ y. G c.function x y && ends a c y t) (variables p c.function) (λ y n. λ j. same a c i e x y j && ends a c y t) k)

  -- the leads of a function are told by the flow of its callees
  pub leads_cong : (u t : VarId) → leads p F f u t ≡ leads p G f u t
  leads_cong u t = any_cong (λ a. leads_by_value a u t || leads_by_call p F a a.call u t) (λ a. leads_by_value a u t || leads_by_call p G a a.call u t) (effects_at p f)
      (λ a i. λ k. leads_by_value a u t || call_cong a i a.call refl u t k)

  -- and so is its flow
  pub flow_cong : (u v : VarId) → flow_by p F f u v ≡ flow_by p G f u v
  flow_cong u v = λ k. is_variable p f u && (is_variable p f v && (same_variable u v || chain_cong (leads p F f) (leads p G f) leads_cong (variables p f) u v k))

module _ (p : TProgram) (r : Ranked p) where
  -- one level more changes nothing, above the rank of the function
  stable : (d f : ℕ) → r.rank f < d → (u v : VarId) → flows_to p d f u v ≡ flows_to p (suc d) f u v
  unfolding flows_to
  stable zero f h u v = absurd (omega arith)
  stable (suc d) f h u v = flow_cong p f (flows_to p d) (flows_to p (suc d)) (λ a c i e x y. stable d c.function (let l = r.falls f a c i e in omega (arith, l)) x y) u v

  at_depth : (n : ℕ) → n ≡ length p.functions → (f : ℕ) (u v : VarId) → flows_to p n f u v ≡ flow_by p (flows_to p n) f u v
  unfolding flows_to
  at_depth zero e f u v =
      let none : false ≡ nat_lt f (length p.functions) = subst (λ n. false ≡ nat_lt f n) e (grind arith) in
      λ i. (none i && is_among u (variables p f)) && (is_variable p f v && (same_variable u v || chain (leads p (flows_to p zero) f) (variables p f) u v))
  at_depth (suc n) e f u v = flow_cong p f (flows_to p n) (flows_to p (suc n))
      (λ a c i q x y. stable n c.function (let l = r.falls f a c i q in let m = r.small f (r.within f a i) in omega (arith, l, m, e)) x y) u v

  pub flow_fix : (f : ℕ) (u v : VarId) → flows p f u v ≡ flow_by p (flows p) f u v
  flow_fix f u v = at_depth (length p.functions) refl f u v

-- ---- input

module _ (p : TProgram) (B C : Bringing) where
  receives_cong : (f : ℕ) → ((b : TEffect) → IsOf b (effects_at p f) → (u : VarId) → B b u ≡ C b u) → (y : VarId) → receives p B f y ≡ receives p C f y
  receives_cong f same y = any_cong (λ b. list_any (λ u. B b u && flows p f u y) (variables p f)) (λ b. list_any (λ u. C b u && flows p f u y) (variables p f)) (effects_at p f)
      (λ b i. any_cong (λ u. B b u && flows p f u y) (λ u. C b u && flows p f u y) (variables p f) (λ u m. λ k. same b i u k && flows p f u y))

  by_call_cong : (a : TEffect) (o : Option TCalled) → ((c : TCalled) → o ≡ Some c → (b : TEffect) → IsOf b (effects_at p c.function) → (u : VarId) → B b u ≡ C b u) → (v : VarId)
      → brings_by_call p B a o v ≡ brings_by_call p C a o v
  by_call_cong a None same v = refl
  by_call_cong a (Some c) same v = any_cong (λ y. receives p B c.function y && ends a c y v) (λ y. receives p C c.function y && ends a c y v) (variables p c.function)
      (λ y m. λ k. receives_cong c.function (same c refl) y k && ends a c y v)

  pub brings_cong : (a : TEffect) → ((c : TCalled) → a.call ≡ Some c → (b : TEffect) → IsOf b (effects_at p c.function) → (u : VarId) → B b u ≡ C b u) → (v : VarId)
      → brings_by p B a v ≡ brings_by p C a v
  brings_cong a same v = λ k. (a.senses && is_variable_of a.target v) || by_call_cong a a.call same v k

module _ (p : TProgram) (r : Ranked p) where
  brings_stable : (d f : ℕ) (a : TEffect) → IsOf a (effects_at p f) → r.rank f < d → (v : VarId) → brings_to p d a v ≡ brings_to p (suc d) a v
  unfolding brings_to
  brings_stable zero f a i h v = absurd (omega arith)
  brings_stable (suc d) f a i h v = brings_cong p (brings_to p d) (brings_to p (suc d)) a (λ c e b j u. brings_stable d c.function b j (let l = r.falls f a c i e in omega (arith, l)) u) v

  brings_at_depth : (n : ℕ) → n ≡ length p.functions → (f : ℕ) (a : TEffect) → IsOf a (effects_at p f) → (v : VarId) → brings_to p n a v ≡ brings_by p (brings_to p n) a v
  unfolding brings_to
  brings_at_depth zero e f a i v = absurd (let l = r.within f a i in omega (arith, l, e))
  brings_at_depth (suc n) e f a i v = brings_cong p (brings_to p n) (brings_to p (suc n)) a
      (λ c q b j u. brings_stable n c.function b j (let l = r.falls f a c i q in let m = r.small f (r.within f a i) in omega (arith, l, m, e)) u) v

  pub brings_fix : (f : ℕ) (a : TEffect) → IsOf a (effects_at p f) → (v : VarId) → brings p a v ≡ brings_by p (brings p) a v
  brings_fix f a i v = brings_at_depth (length p.functions) refl f a i v
