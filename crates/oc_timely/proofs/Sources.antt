-- The value that a statement sets a variable to brings samples by the flow of its effect.
use Rattle.std.proofs.Common.{◌≡◌, inl, inr, ℕ, Bool, true, false, List, [], ◌∷◌, ◌++◌, Option, Some, None, refl, sym, ap, ◌∙◌, subst, arith}
use Rattle.std.specs.Prelude.{◌||◌, option_to_list}
use Rattle.std.proofs.lemmas.Bool.{or_left, or_right}
use Rattle.oc_tree.specs.Names.{Text}
use Rattle.oc_tree.specs.Tree.{TProgram}
use Rattle.oc_tree.specs.Places.{Placed}
use Rattle.oc_tree.specs.declared.tree.VarId.{VarId}
use Rattle.oc_meaning.specs.Store.{Store, Binding, held_at, place_of}
use Rattle.oc_effects.specs.Effects.{TEffect, variable_at, variables_at, source_names, effect_of, effects_at}
use Rattle.oc_flow.specs.Variables.{same_variable, is_among, is_variable}
use Rattle.oc_tree.specs.Members.{IsOf}
use Rattle.oc_flow.specs.Relations.{itself, by_value}
use Rattle.oc_timely.specs.Within.{Where, place_in, samples_of, Owns, Comes, old}
use Rattle.oc_flow.proofs.Lists.{same_itself}

pub among_front : (u : VarId) (xs ys : List VarId) → is_among u xs ≡ true → is_among u (xs ++ ys) ≡ true
among_front u [] ys e = absurd (grind (arith, e))
among_front u (x ∷ xs) ys e = by (same_variable u x) e (among_front u xs ys)
  where
    by : (b : Bool) → b || is_among u xs ≡ true → (is_among u xs ≡ true → is_among u (xs ++ ys) ≡ true) → b || is_among u (xs ++ ys) ≡ true
    by true e r = refl
    by false e r = r e

pub among_back : (u : VarId) (xs ys : List VarId) → is_among u ys ≡ true → is_among u (xs ++ ys) ≡ true
among_back u [] ys e = e
among_back u (x ∷ xs) ys e = or_right (same_variable u x) (is_among u (xs ++ ys)) (among_back u xs ys e)

module _ (p : TProgram) (b : Placed) where
  -- what a name stands for is among what the names stand for
  pub named_among : (x : Text) (u : VarId) (xs : List Text) → IsOf x xs → variable_at p b x ≡ Some u → is_among u (variables_at p b xs) ≡ true
  named_among x u [] h e = absurd h
  named_among x u (y ∷ xs) (inl s) e =
      let same : variable_at p b y ≡ Some u = ap (variable_at p b) (sym s) ∙ e in
      subst (λ o. is_among u (option_to_list o ++ variables_at p b xs) ≡ true) (sym same) (or_left (same_variable u u) (is_among u (variables_at p b xs)) (same_itself u))
  named_among x u (y ∷ xs) (inr h) e = among_back u (option_to_list (variable_at p b y)) (variables_at p b xs) (named_among x u xs h e)

module _ (p : TProgram) (f base : ℕ) (P : TEffect → Type 0) (b : Placed) (env : List Binding) (w : Where) (σ : Store) (owns : Owns p f base b.at env w σ)
    (one : IsOf (effect_of p b) (effects_at p f)) where
  -- a sample of a name in the value, or in the target's index, comes to the target
  pub source_comes : (x : Text) (t : VarId) (j : ℕ) → IsOf x (source_names b.kind) → (effect_of p b).target ≡ Some t → is_variable p f t ≡ true → IsOf j (held_at σ (place_of env x)).samples →
      Comes p f P (samples_of σ w) σ.taken t j
  source_comes x t j h e k i = by (variable_at p b x) refl (subst (λ q. IsOf j (held_at σ q).samples) (owns.named x) i)
    where
      by : (o : Option VarId) → variable_at p b x ≡ o → IsOf j (held_at σ (place_in w o)).samples → Comes p f P (samples_of σ w) σ.taken t j
      by None s l = absurd l
      by (Some u) s l = elim (owns.known u) [
        | inl q ↦ absurd (subst (λ r. IsOf j (held_at σ r).samples) q l)
        | inr v ↦ old u l (by_value (effect_of p b) one v (named_among p b x u (source_names b.kind) h s) e (itself k))
      ]
