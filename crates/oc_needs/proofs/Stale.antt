-- Which rows are to be made anew.
use Rattle.std.proofs.Common.{◌≡◌, refl, ap, Bool, true, List, [], ◌∷◌, ◌++◌, Option, Some, None}
use Rattle.std.specs.Prelude.{◌||◌}
use Rattle.std.specs.List.{list_any}
use Rattle.std.proofs.Math.ListN.{get_or}
use Rattle.oc_effects.specs.Effects.{TCalled, TEffect}
use Rattle.oc_needs.specs.Code.{callee, callees, is_changed}

-- the row of some function that is called, and that of some call
pub any_callee : (changed : List Bool) (es : List TEffect) → list_any (λ f. get_or changed f true) (callees es) ≡ list_any (λ a. is_changed changed a.call) es
any_callee changed [] = refl
any_callee changed (e ∷ es) = by e.call (any_callee changed es)
  where
    by : (o : Option TCalled) → list_any (λ f. get_or changed f true) (callees es) ≡ list_any (λ a. is_changed changed a.call) es
        → list_any (λ f. get_or changed f true) (callee o ++ callees es) ≡ is_changed changed o || list_any (λ a. is_changed changed a.call) es
    by None h = h
    by (Some c) h = ap (λ b. get_or changed c.function true || b) h
