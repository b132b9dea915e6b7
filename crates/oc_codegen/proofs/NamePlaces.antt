-- The place of a name in a list.
use Rattle.std.proofs.Common.{◌≤◌, Bool, true, false, List, [], ◌∷◌, length, suc, arith, ℕ}
use Rattle.std.specs.Prelude.{if◌then◌else◌}
use Rattle.std.specs.Str.{bytes_eq}
use Rattle.oc_tree.specs.Names.{Text}
use Rattle.oc_meaning.specs.Exec.{number_in}

-- it is in the list, or just past its end
pub number_within : (xs : List Text) (x : Text) → number_in xs x ≤ length xs
number_within [] x = omega arith
number_within (y ∷ ys) x = go (bytes_eq x y) (number_in ys x) (number_within ys x)
  where
    go : (same : Bool) (n : ℕ) → n ≤ length ys → (if same then 0 else suc n) ≤ suc (length ys)
    go true n h = omega arith
    go false n h = omega (arith, h)
