-- The test of guarded functions decides the relation.
use Rattle.std.proofs.Common.{◌≡◌, ◌≢◌, ◌<◌, ◌≤◌, ℕ, zero, suc, ◌+◌, Bool, true, false, true≢false, List, [], length, map, Option, Some, None, cond, refl, ap, sym}
use Rattle.std.proofs.Common.{subst, ◌∙◌, inl, inr, arith}
use Rattle.std.specs.Prelude.{◌⊎◌, not, flat_map, nat_eq, option_to_list}
use Rattle.std.proofs.lemmas.Bool.{eqb-true, eq-eqb, and_parts, and_from, or_left, or_right, or_cases}
use Rattle.std.proofs.lemmas.Option.{same_Some, none-some}
use Rattle.oc_tree.specs.Tree.{TProgram}
use Rattle.oc_tree.specs.Rules.{main}
use Rattle.oc_tree.specs.Calls.{function_place}
use Rattle.oc_tree.specs.Members.{IsOf}
use Rattle.oc_tree.specs.Reach.{is_link, linked, leads, reaches}
use Rattle.oc_tree.proofs.ReachLaws.{links_lead, leads_trans, least}
use Rattle.oc_effects.specs.Effects.{TCalled, TEffect, effects_at}
use Rattle.oc_flow.specs.Variables.{from}
use Rattle.oc_flow.specs.Laws.{Decides}
use Rattle.oc_flow.proofs.Fixpoint.{Ranked}
use Rattle.oc_regcheck.specs.Enough.{is_inside, Guarded, guarded, open_call, open_calls, comes_to, is_guarded}
use Rattle.oc_needs.proofs.Tests.{any_of, of_any}
use Rattle.oc_needs.proofs.SitesOnce.{in_join, of_join}
use Rattle.oc_regcheck.proofs.Members.{in_from, from_below}

module _ (p : TProgram) (blocks : List ℕ) where
  -- ---- calls as links

  -- a call of `f` in `g` that is inside no block
  pub record Calls (f g : ℕ) : Type 0 where
    pub effect : TEffect
    pub one : IsOf effect (effects_at p g)
    pub called : TCalled
    pub there : effect.call ≡ Some called
    pub callee : called.function ≡ f
    pub outside : is_inside p blocks effect.stmt ≡ false
    pub small : g < length p.functions

  pub calls_of : (f g : ℕ) → linked (open_calls p blocks) f g ≡ true → Calls f g
  calls_of f g e =
      let l = any_of (is_link f g) (open_calls p blocks) e in
      let ends = and_parts (nat_eq l.0.0 f) (nat_eq l.0.1 g) l.2 in
      let h = of_join (λ k. flat_map (open_call p blocks k) (effects_at p k)) l.0 (from 0 (length p.functions)) l.1 in
      let a = of_join (open_call p blocks h.0) l.0 (effects_at p h.0) h.2 in
      by l.0 (eqb-true l.0.0 f ends.0) (eqb-true l.0.1 g ends.1) h.0 (from_below h.0 0 (length p.functions) h.1) a.0 a.1 (is_inside p blocks a.0.stmt) refl a.0.call refl a.2
    where
      by : (l : ℕ × ℕ) → l.0 ≡ f → l.1 ≡ g → (k : ℕ) → k < 0 + length p.functions → (a : TEffect) → IsOf a (effects_at p k) → (b : Bool) → is_inside p blocks a.stmt ≡ b
          → (o : Option TCalled) → a.call ≡ o → IsOf l (cond b [] (map (λ c. (c.function, k)) (option_to_list o))) → Calls f g
      by l x y k s a i true is o there m = absurd m
      by l x y k s a i false is None there m = absurd m
      by l x y k s a i false is (Some c) there (inr m) = absurd m
      by l x y k s a i false is (Some c) there (inl m) =
          let same : k ≡ g = sym (ap (λ (q : ℕ × ℕ). q.1) m) ∙ y in
          record {
            effect = a;
            one = subst (λ n. IsOf a (effects_at p n)) same i;
            called = c;
            there = there;
            callee = sym (ap (λ (q : ℕ × ℕ). q.0) m) ∙ x;
            outside = is;
            small = omega (arith, s, same);
          }

  call_links : (f g : ℕ) (a : TEffect) (c : TCalled) → g < length p.functions → IsOf a (effects_at p g) → a.call ≡ Some c → c.function ≡ f → is_inside p blocks a.stmt ≡ false
      → linked (open_calls p blocks) f g ≡ true
  call_links f g a c small i there callee outside =
      let l : ℕ × ℕ = (c.function, g) in
      let one : IsOf l (open_call p blocks g a) =
      subst (λ b. IsOf l (cond b [] (map (λ d. (d.function, g)) (option_to_list a.call)))) (sym outside)
      (subst (λ o. IsOf l (map (λ d. (d.function, g)) (option_to_list o))) (sym there) (inl refl)) in
      of_any (is_link f g) l (open_calls p blocks)
      (in_join (λ k. flat_map (open_call p blocks k) (effects_at p k)) l g (from 0 (length p.functions)) (in_from g 0 (length p.functions) (omega arith) (omega (arith, small)))
      (in_join (open_call p blocks g) l a (effects_at p g) i one))
      (and_from (nat_eq c.function f) (nat_eq g g) (eq-eqb c.function f callee) (eq-eqb g g refl))

  -- ---- guarded functions are those from which one doesn't come to `main`

  on_call : (f g : ℕ) → linked (open_calls p blocks) f g ≡ true → Guarded p blocks f → Guarded p blocks g
  on_call f g e (guarded off each) = let c = calls_of f g e in each g c.effect c.called c.one c.there c.callee c.outside

  no_main : (f : ℕ) → function_place p.functions main ≡ Some f → Guarded p blocks f → ⊥
  no_main f e (guarded off each) = off e

  not_come : (o : Option ℕ) → function_place p.functions main ≡ o → (f : ℕ) → Guarded p blocks f → comes_to (open_calls p blocks) (length p.functions) o f ≡ true → ⊥
  not_come None is f h e = true≢false (sym e)
  not_come (Some m) is f h e = by (or_cases (nat_eq f m) (leads (open_calls p blocks) (length p.functions) f m) e)
    where
      by : (nat_eq f m ≡ true) ⊎ (leads (open_calls p blocks) (length p.functions) f m ≡ true) → ⊥
      by (inl q) = no_main m is (subst (Guarded p blocks) (eqb-true f m q) h)
      by (inr q) = no_main m is (least (open_calls p blocks) (λ u v. Guarded p blocks u → Guarded p blocks v) on_call (λ u w v x y k. y (x k)) (length p.functions) f m q h)

  pub not_true : (b : Bool) → not b ≡ true → b ≡ false
  not_true true e = absurd (true≢false (sym e))
  not_true false e = refl

  not_so : (b : Bool) → (b ≡ true → ⊥) → b ≡ false
  not_so true h = absurd (h refl)
  not_so false h = refl

  -- the caller of a guarded function outside of blocks is guarded
  pub caller_guarded : (o : Option ℕ) (f g : ℕ) (a : TEffect) (c : TCalled) → g < length p.functions → IsOf a (effects_at p g) → a.call ≡ Some c → c.function ≡ f
      → is_inside p blocks a.stmt ≡ false → comes_to (open_calls p blocks) (length p.functions) o f ≡ false → comes_to (open_calls p blocks) (length p.functions) o g ≡ false
  caller_guarded None f g a c small i there callee outside e = refl
  caller_guarded (Some m) f g a c small i there callee outside e =
      not_so (reaches (open_calls p blocks) (length p.functions) g m)
      (λ h. true≢false (sym (or_right (nat_eq f m) (leads (open_calls p blocks) (length p.functions) f m) (on (or_cases (nat_eq g m) (leads (open_calls p blocks) (length p.functions) g m) h))) ∙ e))
    where
      first : leads (open_calls p blocks) (length p.functions) f g ≡ true
      first = links_lead (open_calls p blocks) (length p.functions) f g (call_links f g a c small i there callee outside)

      on : (nat_eq g m ≡ true) ⊎ (leads (open_calls p blocks) (length p.functions) g m ≡ true) → leads (open_calls p blocks) (length p.functions) f m ≡ true
      on (inl q) = subst (λ x. leads (open_calls p blocks) (length p.functions) f x ≡ true) (eqb-true g m q) first
      on (inr q) = leads_trans (open_calls p blocks) (length p.functions) f g m small first q

  no_place : (o : Option ℕ) → function_place p.functions main ≡ o → (f : ℕ) → comes_to (open_calls p blocks) (length p.functions) o f ≡ false → o ≢ Some f
  no_place None is f e q = none-some f q
  no_place (Some m) is f e q = true≢false (sym (or_left (nat_eq f m) (leads (open_calls p blocks) (length p.functions) f m) (eq-eqb f m (sym (same_Some m f q)))) ∙ e)

  module _ (r : Ranked p) where
    sound : (k f : ℕ) → length p.functions ≤ r.rank f + k → is_guarded p blocks f ≡ true → Guarded p blocks f
    sound zero f l e = guarded (no_place (function_place p.functions main) refl f (not_true _ e)) (λ g a c i there callee outside. (
        let up = subst (λ n. r.rank n < r.rank g) callee (r.falls g a c i there) in
        let top = r.small g (r.within g a i) in
        absurd (omega (arith, l, up, top))))
    sound (suc k) f l e = guarded (no_place (function_place p.functions main) refl f (not_true _ e)) (λ g a c i there callee outside. (
        let up = subst (λ n. r.rank n < r.rank g) callee (r.falls g a c i there) in
        sound k g (omega (arith, l, up)) (ap not (caller_guarded (function_place p.functions main) f g a c (r.within g a i) i there callee outside (not_true _ e)))))

    pub guarded_is : (f : ℕ) → Decides (is_guarded p blocks f) (Guarded p blocks f)
    guarded_is f = by (is_guarded p blocks f) refl
      where
        by : (b : Bool) → is_guarded p blocks f ≡ b → Decides b (Guarded p blocks f)
        by true e = sound (length p.functions) f (omega arith) e
        by false e = λ h. true≢false (sym (ap not (not_so _ (not_come (function_place p.functions main) refl f h))) ∙ e)
