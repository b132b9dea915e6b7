-- How many parameters and nonvolatile variables there are.
use Rattle.std.proofs.Common.{◌≡◌, ◌<◌, ℕ, zero, suc, List, [], ◌∷◌, map, length, refl, ap, arith}
use Rattle.std.proofs.Math.ListN.{get_or}
use Rattle.oc_tree.specs.View.{function_view}
use Rattle.oc_tree.specs.declared.tree.Function.{Function}

pub params_are : (fs : List Function) (f : ℕ) (g d : Function) → f < length fs → g ≡ get_or fs f d → length g.params.items ≡ length (get_or (map (λ h. h.params) (map function_view fs)) f [])
params_are [] f g d h e = absurd (omega arith)
params_are (x ∷ fs) zero g d h e = ap (λ (y : Function). length y.params.items) e
params_are (x ∷ fs) (suc f) g d h e = params_are fs f g d (omega arith) e

pub params_get : (fs : List Function) (f : ℕ) (d : Function) → f < length fs → get_or (map function_view fs) f (function_view d) ≡ function_view (get_or fs f d)
params_get [] f d h = absurd (omega arith)
params_get (x ∷ fs) zero d h = refl
params_get (x ∷ fs) (suc f) d h = params_get fs f d (omega arith)
