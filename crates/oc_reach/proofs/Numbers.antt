-- The numbers of parameters tell them apart.
use Rattle.std.proofs.Common.{◌≡◌, ◌<◌, ◌≤◌, inl, inr, ℕ, zero, suc, ◌+◌, List, [], ◌∷◌, length, Some, refl, ap, arith}
use Rattle.std.specs.Prelude.{◌⊎◌, slice_get}
use Rattle.std.proofs.Math.ListN.{get_or}
use Rattle.std.proofs.lemmas.Bool.Decides.{eqb_tells}
use Rattle.std.proofs.lemmas.Option.{none-some, same_Some}
use Rattle.oc_tree.specs.Tree.{TFunction}
use Rattle.oc_tree.specs.Assigned.{first_params, first_param, param_count}
use Rattle.oc_reach.proofs.PassLaws.{params_at, first_room}
use Rattle.oc_reach.specs.Through.{IsParam}

pub params_of : (fs : List TFunction) (u : ℕ) (f : TFunction) → slice_get fs u ≡ Some f → params_at fs u ≡ f.params
params_of [] u f h = absurd (none-some f h)
params_of (g ∷ fs) zero f h = ap (λ x. x.params) (same_Some g f h)
params_of (g ∷ fs) (suc u) f h = params_of fs u f h

-- a parameter is one of a function that exists
pub function_below : (fs : List TFunction) (u j : ℕ) → IsParam fs u j → u < length fs
function_below [] u j h = absurd (omega (arith, h))
function_below (f ∷ fs) zero j h = omega arith
function_below (f ∷ fs) (suc u) j h = let r = function_below fs u j h in omega (arith, r)

-- the first parameters stand in order
first_least : (n : ℕ) (fs : List TFunction) (u : ℕ) → u < length fs → n ≤ get_or (first_params n fs) u 0
first_least n [] u h = absurd (omega (arith, h))
first_least n (f ∷ fs) zero h = omega arith
first_least n (f ∷ fs) (suc u) h = let r = first_least (n + length f.params) fs u (omega (arith, h)) in omega (arith, r)

first_behind : (n : ℕ) (fs : List TFunction) (u v : ℕ) → u < v → v < length fs → get_or (first_params n fs) u 0 + length (params_at fs u) ≤ get_or (first_params n fs) v 0
first_behind n [] u v l h = absurd (omega (arith, h))
first_behind n (f ∷ fs) u zero l h = absurd (omega (arith, l))
first_behind n (f ∷ fs) zero (suc v) l h = first_least (n + length f.params) fs v (omega (arith, h))
first_behind n (f ∷ fs) (suc u) (suc v) l h = first_behind (n + length f.params) fs u v (omega (arith, l)) (omega (arith, h))

apart : (u v : ℕ) → (u ≡ v → ⊥) → (u < v) ⊎ (v < u)
apart zero zero h = absurd (h refl)
apart zero (suc v) h = inl (omega arith)
apart (suc u) zero h = inr (omega arith)
apart (suc u) (suc v) h = elim (apart u v (λ e. h (ap suc e))) [ inl l ↦ inl (omega (arith, l)) | inr l ↦ inr (omega (arith, l)) ]

-- one number is that of one parameter
pub one_param : (fs : List TFunction) (u j v i : ℕ) → IsParam fs u j → IsParam fs v i → first_param fs u + j ≡ first_param fs v + i → (u ≡ v) × (j ≡ i)
one_param fs u j v i a b e = elim (eqb_tells u v) [
  | inl same ↦ (same.1, let f : first_param fs u ≡ first_param fs v = ap (first_param fs) same.1 in omega (arith, f, e))
  | inr other ↦ elim (apart u v other.1) [
    | inl l ↦ absurd (let r = first_behind 0 fs u v l (function_below fs v i b) in omega (arith, r, a, e))
    | inr l ↦ absurd (let r = first_behind 0 fs v u l (function_below fs u j a) in omega (arith, r, b, e))
  ]
]

-- and it is one among all
pub number_below : (fs : List TFunction) (u j : ℕ) → IsParam fs u j → first_param fs u + j < param_count fs
number_below fs u j h = let r = first_room 0 fs u (function_below fs u j h) in omega (arith, r, h)
