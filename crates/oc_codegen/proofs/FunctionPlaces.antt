-- Functions by their places.
use Rattle.std.proofs.Common.{◌≡◌, ℕ, suc, ◌+◌, Bool, true, false, List, [], ◌∷◌, length, refl, ap, arith, Some, None}
use Rattle.std.specs.Prelude.{cond, if◌then◌else◌}
use Rattle.std.specs.Str.{bytes_eq}
use Rattle.oc_tree.specs.Names.{Text}
use Rattle.oc_tree.specs.Tree.{TFunction}
use Rattle.oc_tree.specs.Calls.{place_from, function_names}
use Rattle.oc_code.specs.Code.{function_number}

-- the place in a table is the function's number
pub number_some : (fs : List TFunction) (x : Text) (n i : ℕ) → place_from n (function_names fs) x ≡ Some i → i ≡ n + function_number fs x
number_some [] x n i h = cc
number_some (f ∷ fs) x n i h = by (number_some fs x (n + 1) i) (bytes_eq x f.name) h
  where
    by : (place_from (n + 1) (function_names fs) x ≡ Some i → i ≡ n + 1 + function_number fs x) → (t : Bool) → cond t (Some n) (place_from (n + 1) (function_names fs) x) ≡ Some i
        → i ≡ n + (if t then 0 else suc (function_number fs x))
    by more true h = let e : n ≡ i = cc in omega (arith, e)
    by more false h = omega (arith, more h)

-- with no place in a table, the number is past the end
pub number_none : (fs : List TFunction) (x : Text) (n : ℕ) → place_from n (function_names fs) x ≡ None → function_number fs x ≡ length fs
number_none [] x n h = refl
number_none (f ∷ fs) x n h = by (number_none fs x (n + 1)) (bytes_eq x f.name) h
  where
    by : (place_from (n + 1) (function_names fs) x ≡ None → function_number fs x ≡ length fs) → (t : Bool) → cond t (Some n) (place_from (n + 1) (function_names fs) x) ≡ None
        → (if t then 0 else suc (function_number fs x)) ≡ suc (length fs)
    by more true h = cc
    by more false h = ap suc (more h)
