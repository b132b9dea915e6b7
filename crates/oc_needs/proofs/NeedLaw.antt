-- The test of need decides the relation, where the test of flow does and calls fall along a rank.
use Rattle.std.proofs.Common.{◌≡◌, refl, sym, ap, ◌∙◌, subst, ℕ, zero, suc, ◌<◌, ◌≤◌, arith, Bool, true, false, true≢false, nat_eq, inl, inr, List, [], ◌∷◌, length, Option, Some, None}
use Rattle.std.specs.Prelude.{◌&&◌, not}
use Rattle.std.specs.List.{list_any}
use Rattle.std.proofs.lemmas.Bool.{cases_lt, eqb-true, eq-eqb, and_from, and_parts, or_left, or_right}
use Rattle.oc_tree.specs.Tree.{TProgram}
use Rattle.oc_tree.specs.Checked.{Group, IsChecked}
use Rattle.oc_tree.specs.declared.tree.VarId.{VarId}
use Rattle.oc_tree.specs.declared.marked.Policy.{Policy}
use Rattle.oc_effects.specs.Effects.{TCalled, TEffect, effects_at}
use Rattle.oc_flow.specs.Variables.{variables, is_variable, is_given, begins}
use Rattle.oc_tree.specs.Members.{IsOf}
use Rattle.oc_flow.specs.Relations.{Flow}
use Rattle.oc_flow.specs.Flow.{flows, flows_to}
use Rattle.oc_flow.specs.Laws.{Decides}
use Rattle.oc_flow.proofs.FlowLaw.{flows_decide}
use Rattle.oc_flow.proofs.Ranks.{ranked}
use Rattle.oc_needs.specs.Policies.{annotated, held}
use Rattle.oc_needs.specs.Need.{Need, by_annotation, by_call, is_empty, is_needed_at, needs_by_call, needs_itself, needs_to, needs}
use Rattle.oc_needs.proofs.Tests.{or_case, any_of, of_any}
use Rattle.oc_needs.proofs.NeedLevels.{effects_past, annotated_past, listed, needed_variable}

decided : (b : Bool) (A : Type 0) → Decides b A → b ≡ true → A
decided true A d e = d
decided false A d e = absurd (true≢false (sym e))

back : (b : Bool) (A : Type 0) → Decides b A → A → b ≡ true
back true A d a = refl
back false A d a = absurd (d a)

decides : (b : Bool) (A : Type 0) → (b ≡ true → A) → (A → b ≡ true) → Decides b A
decides true A f g = f refl
decides false A f g = λ a. absurd (true≢false (sym (g a)))

some_held : (ns : List ℕ) → (ns ≡ [] → ⊥) → not (is_empty ns) ≡ true
some_held [] h = absurd (h refl)
some_held (n ∷ ns) h = refl

not_empty : (ns : List ℕ) → not (is_empty ns) ≡ true → ns ≡ [] → ⊥
not_empty [] h e = true≢false (sym h)
not_empty (n ∷ ns) h e = true≢false (sym (ap is_empty e ∙ refl))

ends_in : (p : TProgram) (depth f : ℕ) (u v : VarId) → flows_to p depth f u v ≡ true → is_variable p f v ≡ true
unfolding flows_to
ends_in p zero f u v h = absurd (true≢false (sym h))
ends_in p (suc depth) f u v h = (and_parts (is_variable p f v) _ (and_parts (is_variable p f u) _ h).1).0

module _ (p : TProgram) (q : Policy) (flow : (f : ℕ) (u v : VarId) → Decides (flows p f u v) (Flow p f u v)) where
  -- what the test says is so
  pub sound : (depth g : ℕ) (w : VarId) → needs_to p q depth g w ≡ true → Need p q g w
  unfolding needs_to
  sound zero g w h = absurd (true≢false (sym h))
  sound (suc depth) g w h =
      or_case (needs_itself p q g w) (needs_by_call p (needs_to p q depth) g w) (and_parts (is_given w) _ h).1 (own g w (and_parts (is_given w) _ h).0)
      (called (needs_to p q depth) (sound depth) g w (and_parts (is_given w) _ h).0)
    where
      own : (g : ℕ) (w : VarId) → is_given w ≡ true → needs_itself p q g w ≡ true → Need p q g w
      own g w i e =
          let here : q.function ≡ g = sym (eqb-true g q.function (and_parts (nat_eq g q.function) _ e).0) in
          let rest = (and_parts (nat_eq g q.function) _ e).1 in
          let x = any_of (flows p g w) (annotated p q) (and_parts (not (is_empty (held p q))) _ rest).1 in
          subst (λ f. Need p q f w) here (by_annotation x.1 (not_empty (held p q) (and_parts (not (is_empty (held p q))) _ rest).0) i
          (subst (λ f. Flow p f w x.0) (sym here) (decided (flows p g w x.0) (Flow p g w x.0) (flow g w x.0) x.2)))

      at_call : (need : ℕ → VarId → Bool) → ((f : ℕ) (x : VarId) → need f x ≡ true → Need p q f x) → (g : ℕ) (w y : VarId) → is_given w ≡ true → Flow p g w y → (a : TEffect)
          → IsOf a (effects_at p g) → (o : Option TCalled) → a.call ≡ o → is_needed_at p need o y ≡ true → Need p q g w
      at_call need so g w y i f a o None e h = absurd (true≢false (sym h))
      at_call need so g w y i f a o (Some c) e h =
          let x = any_of (λ v. need c.function v && begins c v y) (variables p c.function) h in
          by_call a c o e (so c.function x.0 (and_parts (need c.function x.0) _ x.2).0) (and_parts (need c.function x.0) _ x.2).1 i f

      called : (need : ℕ → VarId → Bool) → ((f : ℕ) (x : VarId) → need f x ≡ true → Need p q f x) → (g : ℕ) (w : VarId) → is_given w ≡ true → needs_by_call p need g w ≡ true → Need p q g w
      called need so g w i e =
          let a = any_of (λ b. list_any (λ y. is_needed_at p need b.call y && flows p g w y) (variables p g)) (effects_at p g) e in
          let y = any_of (λ z. is_needed_at p need a.0.call z && flows p g w z) (variables p g) a.2 in
          at_call need so g w y.0 i (decided (flows p g w y.0) (Flow p g w y.0) (flow g w y.0) (and_parts (is_needed_at p need a.0.call y.0) _ y.2).1) a.0 a.1 a.0.call refl
          (and_parts (is_needed_at p need a.0.call y.0) _ y.2).0

  module _ (rank : ℕ → ℕ) (falls : (g : ℕ) (a : TEffect) (c : TCalled) → IsOf a (effects_at p g) → a.call ≡ Some c → rank c.function < rank g) where
    own_test : (w x : VarId) → IsOf x (annotated p q) → (held p q ≡ [] → ⊥) → Flow p q.function w x → needs_itself p q q.function w ≡ true
    own_test w x o h f =
        and_from (nat_eq q.function q.function) _ (eq-eqb q.function q.function refl)
        (and_from (not (is_empty (held p q))) _ (some_held (held p q) h)
        (of_any (flows p q.function w) x (annotated p q) o (back (flows p q.function w x) (Flow p q.function w x) (flow q.function w x) f)))

    call_test : (depth g : ℕ) (x y w : VarId) (a : TEffect) (c : TCalled) → IsOf a (effects_at p g) → a.call ≡ Some c → needs_to p q depth c.function x ≡ true → begins c x y ≡ true
        → Flow p g w y → needs_by_call p (needs_to p q depth) g w ≡ true
    call_test depth g x y w a c o e n b f =
        let goes : flows p g w y ≡ true = back (flows p g w y) (Flow p g w y) (flow g w y) f in
        let needed : is_needed_at p (needs_to p q depth) (Some c) y ≡ true =
        of_any (λ v. needs_to p q depth c.function v && begins c v y) x (variables p c.function) (needed_variable p q depth c.function x n)
        (and_from (needs_to p q depth c.function x) (begins c x y) n b) in
        of_any (λ d. list_any (λ z. is_needed_at p (needs_to p q depth) d.call z && flows p g w z) (variables p g)) a (effects_at p g) o
        (of_any (λ z. is_needed_at p (needs_to p q depth) a.call z && flows p g w z) y (variables p g) (listed p g y (ends_in p (length p.functions) g w y goes))
        (and_from (is_needed_at p (needs_to p q depth) a.call y) (flows p g w y) (subst (λ s. is_needed_at p (needs_to p q depth) s y ≡ true) (sym e) needed) goes))

    -- what is so is found, as deep as the rank
    pub complete : (g : ℕ) (w : VarId) → Need p q g w → (depth : ℕ) → rank g < depth → needs_to p q depth g w ≡ true
    unfolding needs_to
    complete g w n zero l = absurd (omega arith)
    complete _ _ (by_annotation {w = w} {x = x} o h i f) (suc depth) l =
        and_from (is_given w) _ i (or_left (needs_itself p q q.function w) (needs_by_call p (needs_to p q depth) q.function w) (own_test w x o h f))
    complete _ _ (by_call {g = g} {x = x} {y = y} {w = w} a c o e n b i f) (suc depth) l =
        let deep : rank c.function < rank g = falls g a c o e in
        and_from (is_given w) _ i (or_right (needs_itself p q g w) (needs_by_call p (needs_to p q depth) g w)
        (call_test depth g x y w a c o e (complete c.function x n depth (omega (arith, deep, l))) b f))

    none_past : (g : ℕ) (w : VarId) → Need p q g w → length p.functions ≤ g → ⊥
    none_past _ _ (by_annotation {w = w} {x = x} o h i f) l = subst (IsOf x) (annotated_past p q l) o
    none_past _ _ (by_call {g = g} a c o e n b i f) l = subst (IsOf a) (effects_past p g l) o

    pub needs_is_need : ((g : ℕ) → g < length p.functions → rank g < length p.functions) → (g : ℕ) (w : VarId) → Decides (needs p q g w) (Need p q g w)
    needs_is_need low g w = decides (needs p q g w) (Need p q g w) (sound (length p.functions) g w) by_place
      where
        by_place : Need p q g w → needs p q g w ≡ true
        by_place n = elim (cases_lt g (length p.functions)) [ inl h ↦ complete g w n (length p.functions) (low g h) | inr h ↦ absurd (none_past g w n h) ]

-- in each checked program
pub needs_decide : (p : TProgram) (groups : List Group) → IsChecked p groups → (q : Policy) (f : ℕ) (w : VarId) → Decides (needs p q f w) (Need p q f w)
needs_decide p groups checked q =
    let r = ranked p groups checked in needs_is_need p q (flows_decide p r) r.rank r.falls r.small
