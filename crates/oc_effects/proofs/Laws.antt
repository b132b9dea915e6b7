-- What follows for those who go by the effects: how a function's are numbered, and that what is found among them is
-- the effect of the statement.
use Rattle.std.proofs.Common.{◌≡◌, sym, ap, ◌∙◌, ℕ, zero, suc, ◌+◌, ◌-◌, ◌<◌, ◌≤◌, arith, Bool, true, false, List, [], ◌∷◌, map, length, nat_lt, refl, Some, None}
use Rattle.std.specs.List.{find}
use Rattle.std.specs.Option.{option_map, option_or}
use Rattle.std.proofs.Math.ListN.{get_or}
use Rattle.std.proofs.lemmas.Option.{slice_get_past}
use Rattle.std.proofs.lemmas.List.Folds.{find-append}
use Rattle.oc_tree.specs.Names.{Text}
use Rattle.oc_tree.specs.Tree.{TFunction, TProgram}
use Rattle.oc_tree.specs.Numbers.{numbers_on}
use Rattle.oc_tree.specs.Form.{InForm}
use Rattle.oc_tree.specs.Places.{placed}
use Rattle.oc_effects.specs.Effects.{TEffect, effect_of, effects_at, function_effects, is_numbered}
use Rattle.oc_effects.specs.Flat.{all_effects}
use Rattle.oc_effects.proofs.Numbering.{Consecutive, numbers_split, function_numbered, all_numbered, none_lower, found_at, placed_is}

-- a higher number is not there
none_higher : (s first : ℕ) (es : List TEffect) → Consecutive first es → first + length es ≤ s → find (is_numbered s) es ≡ None
none_higher s first es h l = found_at s first es h (omega (arith, l)) ∙ slice_get_past es (s - first) (omega (arith, l))

-- what is there has no lower number
not_lower : (s first : ℕ) (es : List TEffect) (e : TEffect) → Consecutive first es → find (is_numbered s) es ≡ Some e → first ≤ s
not_lower s first es e h is = by_test (nat_lt s first) refl
  where
    by_test : (t : Bool) → nat_lt s first ≡ t → first ≤ s
    by_test false less = grind (arith, less)
    by_test true less =
        let l : s < first = grind (arith, less) in
        let none = none_lower s first es h l in absurd (grind (arith, none, is))

module _ (p : TProgram) where
  -- what is found among those of a function is found among all
  found_in_all : (first : ℕ) (fs : List TFunction) (i s : ℕ) (e : TEffect) → Consecutive first (all_effects p fs) → find (is_numbered s) (get_or (map (function_effects p) fs) i [])
      ≡ Some e → find (is_numbered s) (all_effects p fs) ≡ Some e
  found_in_all first [] i s e h is = absurd (grind (arith, is))
  found_in_all first (f ∷ fs) zero s e h is =
      find-append (is_numbered s) (function_effects p f) (all_effects p fs) ∙ ap (λ o. option_or o (find (is_numbered s) (all_effects p fs))) is
  found_in_all first (f ∷ fs) (suc i) s e h is =
      let parts = numbers_split first (function_effects p f) (all_effects p fs) h in
      let rest = found_in_all (first + length (function_effects p f)) fs i s e parts.1 is in
      let l = not_lower s (first + length (function_effects p f)) (all_effects p fs) e parts.1 rest in
      find-append (is_numbered s) (function_effects p f) (all_effects p fs)
      ∙ ap (λ o. option_or o (find (is_numbered s) (all_effects p fs))) (none_higher s first (function_effects p f) parts.0 l) ∙ rest

  module _ (N : Text → Type 0) (form : InForm N p) where
    -- a function's statements are numbered on from one of them
    pub numbered_on : (f : ℕ) → f < length p.functions → (n : ℕ) × (map (λ e. e.stmt) (effects_at p f) ≡ numbers_on n (length (effects_at p f)))
    numbered_on f h = function_numbered p 1 p.functions f (all_numbered p form.numbered.statements) h

    -- what a number finds in a function is the effect of the statement of that number
    pub found_placed : (f s : ℕ) (e : TEffect) → find (is_numbered s) (effects_at p f) ≡ Some e → option_map (effect_of p) (placed p s) ≡ Some e
    found_placed f s e is = sym (placed_is p s) ∙ found_in_all 1 p.functions f s e (all_numbered p form.numbered.statements) is
