-- A site comes no later than its statement, nor than a loop out of which a carrier comes.
use Rattle.std.proofs.Common.{◌≡◌, ◌⊎◌, inl, inr, ℕ, ◌≤◌, true, List, [], ◌∷◌, ◌++◌, refl, sym, subst, arith}
use Rattle.std.proofs.lemmas.Bool.{and_from}
use Rattle.std.specs.Prelude.{◌&&◌, reverse}
use Rattle.std.proofs.lemmas.Grind.{reverse_onto}
use Rattle.oc_tree.specs.Tree.{TProgram}
use Rattle.oc_tree.specs.Checked.{Group, IsChecked}
use Rattle.oc_tree.specs.declared.tree.VarId.{VarId}
use Rattle.oc_effects.specs.Effects.{TEffect, effects_at}
use Rattle.oc_flow.specs.Variables.{variables, is_variable}
use Rattle.oc_tree.specs.Members.{IsOf}
use Rattle.oc_flow.specs.Relations.{Flow, itself, by_value, by_call}
use Rattle.oc_flow.specs.Flow.{flows}
use Rattle.oc_flow.specs.Laws.{FlowsIsFlow}
use Rattle.oc_flow.proofs.Lists.{any_in}
use Rattle.oc_needs.specs.Sites.{is_loop_at, is_outside, carries, lifts, site}
use Rattle.oc_needs.proofs.NeedLevels.{listed}
use Rattle.oc_laws.proofs.Members.{of_left, of_right, in_append}
use Rattle.oc_timely.proofs.Inputs.{Up, decide_true, site_low, site_lifted}
use Rattle.oc_timely.proofs.Around.{Falls, effects_nested}

in_reverse : (y : ℕ) (xs : List ℕ) → IsOf y (reverse xs) → IsOf y xs
in_reverse y [] h = h
in_reverse y (x ∷ xs) h = by (in_append y (reverse xs) (x ∷ []) (subst (λ l. IsOf y l) (reverse_onto xs x []) h)) (in_reverse y xs)
  where
    by : IsOf y (reverse xs) ⊎ IsOf y (x ∷ []) → (IsOf y (reverse xs) → IsOf y xs) → IsOf y (x ∷ xs)
    by (inl o) r = inr (r o)
    by (inr (inl e)) r = inl e
    by (inr (inr o)) r = absurd o

to_reverse : (y : ℕ) (xs : List ℕ) → IsOf y xs → IsOf y (reverse xs)
to_reverse y [] h = h
to_reverse y (x ∷ xs) h = subst (λ l. IsOf y l) (sym (reverse_onto xs x [])) (by h (to_reverse y xs))
  where
    by : IsOf y (x ∷ xs) → (IsOf y xs → IsOf y (reverse xs)) → IsOf y (reverse xs ++ x ∷ [])
    by (inl e) r = of_right y (reverse xs) (x ∷ []) (inl e)
    by (inr o) r = of_left y (reverse xs) (x ∷ []) (r o)

up_last : (xs : List ℕ) (x : ℕ) → Up xs → ((y : ℕ) → IsOf y xs → y ≤ x) → Up (xs ++ x ∷ [])
up_last [] x u h = (λ y o. absurd o, tt)
up_last (z ∷ xs) x u h = (λ y o. by y (in_append y xs (x ∷ []) o), up_last xs x u.1 (λ y o. h y (inr o)))
  where
    by : (y : ℕ) → IsOf y xs ⊎ IsOf y (x ∷ []) → z ≤ y
    by y (inl o) = u.0 y o
    by y (inr (inl e)) = let l = h z (inl refl) in omega (arith, e, l)
    by y (inr (inr o)) = absurd o

up_reverse : (xs : List ℕ) → Falls xs → Up (reverse xs)
up_reverse [] h = tt
up_reverse (x ∷ xs) h = subst Up (sym (reverse_onto xs x [])) (up_last (reverse xs) x (up_reverse xs h.1) (λ y o. let l = h.0 y (in_reverse y xs o) in omega (arith, l)))

-- what flows is a variable
pub flow_from : (p : TProgram) (f : ℕ) (u v : VarId) → Flow p f u v → is_variable p f u ≡ true
flow_from p f u v (itself k) = k
flow_from p f u v (by_value a i k s t r) = k
flow_from p f u v (by_call a c i s k b r e t) = k

module _ (flow : FlowsIsFlow) (p : TProgram) (groups : List Group) (checked : IsChecked p groups) (f : ℕ) where
  pub lifted : (u w x : VarId) (loop : ℕ) → Flow p f u w → Flow p f w x → is_outside p f loop w ≡ true → lifts p f u x loop ≡ true
  lifted u w x loop a b o =
      let first = decide_true (flows p f u w) (Flow p f u w) (flow p groups checked f u w) a in
      let second = decide_true (flows p f w x) (Flow p f w x) (flow p groups checked f w x) b in
      any_in (λ w. carries p f u x w && is_outside p f loop w) (variables p f) w (listed p f w (flow_from p f w x b))
      (and_from (carries p f u x w) (is_outside p f loop w) (and_from (flows p f u w) (flows p f w x) first second) o)

  pub low : (a : TEffect) (u x : VarId) → IsOf a (effects_at p f) → site p f a u x ≤ a.stmt
  low a u x i = site_low p f a u x (λ y o. let n = effects_nested p checked.form.numbered.statements f a i in let l = n.0 y (in_reverse y a.around o) in omega (arith, l))

  pub lifted_low : (a : TEffect) (u w x : VarId) (loop : ℕ) → IsOf a (effects_at p f) → IsOf loop a.around → is_loop_at p f loop ≡ true → Flow p f u w → Flow p f w x → is_outside p f loop w ≡ true →
      site p f a u x ≤ loop
  lifted_low a u w x loop i o is b c e =
      site_lifted p f a u x loop (up_reverse a.around (effects_nested p checked.form.numbered.statements f a i).1) (to_reverse loop a.around o) is (lifted u w x loop b c e)
