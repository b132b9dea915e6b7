-- Each statement of a function has its effect, and what it declares is a variable of the function.
use Rattle.std.proofs.Common.{◌≡◌, inl, inr, ℕ, Bool, true, false, List, [], ◌∷◌, length, map, filter, Some, sym, ap, ◌∙◌, subst, arith}
use Rattle.std.proofs.lemmas.Bool.{and_from, or_left, or_right}
use Rattle.std.specs.Prelude.{cond, slice_get}
use Rattle.oc_tree.specs.Tree.{TFunction, TProgram}
use Rattle.oc_tree.specs.Places.{Placed, declares, at_start, block_placed}
use Rattle.oc_tree.specs.declared.tree.VarId.TheVariants as variables
use Rattle.oc_effects.specs.Effects.{TEffect, effect_of, effects_at, function_effects, params_at}
use Rattle.oc_flow.specs.Variables.{same_variable, is_among, is_variable, from}
use Rattle.oc_tree.specs.Members.{IsOf}
use Rattle.oc_laws.proofs.Members.{at_place, in_image}
use Rattle.oc_timely.proofs.Sources.{among_back}
use Rattle.oc_timely.proofs.NoCalls.{stands_at}
use Rattle.oc_flow.proofs.Lists.{same_itself}

-- the effect of each statement
pub has_effect : (p : TProgram) (f : ℕ) (g : TFunction) → slice_get p.functions f ≡ Some g → (b : Placed) → IsOf b (block_placed (at_start g) g.body) → IsOf (effect_of p b) (effects_at p f)
has_effect p f g at b h = subst (IsOf (effect_of p b)) (sym (at_place (function_effects p) p.functions f g [] at)) (in_image (effect_of p) (block_placed (at_start g) g.body) b h)

declared_among : (a : TEffect) (es : List TEffect) → IsOf a es → a.declares ≡ true → is_among (variables.Declared a.stmt) (map (λ a. variables.Declared a.stmt) (filter (λ a. a.declares) es)) ≡ true
declared_among a [] h d = absurd h
declared_among a (x ∷ es) (inl e) d =
    subst (λ (y : TEffect). is_among (variables.Declared a.stmt) (map (λ a. variables.Declared a.stmt) (cond y.declares (y ∷ filter (λ a. a.declares) es) (filter (λ a. a.declares) es))) ≡ true) e
    (ap (λ c. is_among (variables.Declared a.stmt) (map (λ a. variables.Declared a.stmt) (cond c (a ∷ filter (λ a. a.declares) es) (filter (λ a. a.declares) es)))) d
    ∙ or_left (same_variable (variables.Declared a.stmt) (variables.Declared a.stmt)) _ (same_itself (variables.Declared a.stmt)))
declared_among a (x ∷ es) (inr h) d = by x.declares (declared_among a es h d)
  where
    by : (c : Bool) → is_among (variables.Declared a.stmt) (map (λ a. variables.Declared a.stmt) (filter (λ a. a.declares) es)) ≡ true →
        is_among (variables.Declared a.stmt) (map (λ a. variables.Declared a.stmt) (cond c (x ∷ filter (λ a. a.declares) es) (filter (λ a. a.declares) es))) ≡ true
    by true r = or_right (same_variable (variables.Declared a.stmt) (variables.Declared x.stmt)) _ r
    by false r = r

-- what it declares
pub has_declared : (p : TProgram) (f : ℕ) (g : TFunction) → slice_get p.functions f ≡ Some g → (b : Placed) → IsOf b (block_placed (at_start g) g.body) → declares b.kind ≡ true →
    is_variable p f (variables.Declared b.id) ≡ true
has_declared p f g at b h d =
    and_from _ _ (let l = stands_at p.functions f g at in grind (arith, l))
    (among_back (variables.Declared b.id) (map variables.Nv (from 0 (length p.names.nvs))) _
    (among_back (variables.Declared b.id) (map variables.Param (from 0 (length (params_at p f)))) _
    (or_right (same_variable (variables.Declared b.id) variables.Returned) _ (declared_among (effect_of p b) (effects_at p f) (has_effect p f g at b h) d))))
