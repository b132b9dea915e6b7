-- The functions of a program, as the code holds them.
use Rattle.std.proofs.Common.{◌≡◌, ◌<◌, ℕ, zero, suc, List, [], ◌∷◌, length, map, slice_index_or, ap, arith}
use Rattle.std.proofs.Math.ListN.{get_or}
use Rattle.oc_tree.specs.declared.tree.Function.{Function}
use Rattle.oc_tree.specs.View.{function_view}

-- the parameters of the function at a place
pub params_read : (fs : List Function) (i : ℕ) (f : Function) → i < length fs → f ≡ slice_index_or fs i f → f.params.items ≡ get_or (map (λ g. g.params) (map function_view fs)) i []
params_read [] i f h e = absurd (omega arith)
params_read (g ∷ fs) zero f h e = ap (λ k. k.params.items) e
params_read (g ∷ fs) (suc i) f h e = params_read fs i f (omega (arith, h)) e
