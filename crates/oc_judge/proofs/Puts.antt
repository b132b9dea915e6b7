-- The last instance of a set is put where the one before it stood, or at the end.
use Rattle.std.proofs.Common.{◌≡◌, refl, ap, ◌∙◌, ℕ, suc, ℤ, Bool, true, false, List, [], ◌∷◌, ◌++◌, map, Option, Some, None, cond}
use Rattle.std.specs.Prelude.{position, slice_set}
use Rattle.std.specs.Option.{option_map}
use Rattle.oc_steps.specs.Fold.{is_set, put_instance}
use Rattle.oc_steps.proofs.Homes.{position_first, position_later}
use Rattle.oc_judge.specs.Ways.{instance_view}
use Rattle.oc_judge.specs.declared.way.Instance.{Instance}

abbrev pub put_at : Option ℕ → Instance → List Instance → List Instance
put_at None y xs = xs ++ y ∷ []
put_at (Some i) y xs = slice_set xs i y

put_behind : (o : Option ℕ) (y x : Instance) (xs : List Instance) → put_at (option_map suc o) y (x ∷ xs) ≡ x ∷ put_at o y xs
put_behind None y x xs = refl
put_behind (Some i) y x xs = refl

pub put_by : (k : ℕ × ℤ) (y : Instance) (xs : List Instance)
    → map instance_view (put_at (position (λ i. is_set k (instance_view i)) xs) y xs) ≡ put_instance k (instance_view y) (map instance_view xs)
put_by k y [] = refl
put_by k y (x ∷ xs) = by (is_set k (instance_view x)) refl (put_by k y xs)
  where
    by : (b : Bool) → is_set k (instance_view x) ≡ b → map instance_view (put_at (position (λ i. is_set k (instance_view i)) xs) y xs) ≡ put_instance k (instance_view y) (map instance_view xs)
        → map instance_view (put_at (position (λ i. is_set k (instance_view i)) (x ∷ xs)) y (x ∷ xs))
        ≡ cond b (instance_view y ∷ map instance_view xs) (instance_view x ∷ put_instance k (instance_view y) (map instance_view xs))
    by true e h = ap (λ o. map instance_view (put_at o y (x ∷ xs))) (position_first (λ i. is_set k (instance_view i)) x xs e)
    by false e h =
        ap (λ o. map instance_view (put_at o y (x ∷ xs))) (position_later (λ i. is_set k (instance_view i)) x xs e)
        ∙ ap (map instance_view) (put_behind (position (λ i. is_set k (instance_view i)) xs) y x xs)
        ∙ ap (λ l. instance_view x ∷ l) h
