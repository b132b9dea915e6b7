-- Names and what they name.
use Rattle.std.proofs.Common.{◌≡◌, ◌+◌, Bool, true, false, [], ◌∷◌, ◌++◌, None, Some, cond, refl, ap, ◌∙◌}
use Rattle.std.specs.Option.{option_or}
use Rattle.std.specs.Str.{bytes_eq}
use Rattle.oc_tree.specs.Names.{Text}
use Rattle.oc_tree.specs.declared.tree.VarId.{VarId}
use Rattle.oc_tree.specs.Places.{Variables, find_variable}

-- among variables one behind another
pub found_on : (vs ws : Variables) (y : Text) → find_variable (vs ++ ws) y ≡ option_or (find_variable vs y) (find_variable ws y)
found_on [] ws y = refl
found_on (v ∷ vs) ws y = by (bytes_eq y v.0) (found_on vs ws y)
  where
    by : (b : Bool) → find_variable (vs ++ ws) y ≡ option_or (find_variable vs y) (find_variable ws y) → cond b (Some v.1) (find_variable (vs ++ ws) y)
        ≡ option_or (cond b (Some v.1) (find_variable vs y)) (find_variable ws y)
    by true e = refl
    by false e = e

-- one that is found stays so
pub find_found : (vs ws : Variables) (y : Text) (u : VarId) → find_variable vs y ≡ Some u → find_variable (vs ++ ws) y ≡ Some u
find_found vs ws y u e = found_on vs ws y ∙ ap (λ o. option_or o (find_variable ws y)) e

-- where the first have none, it is found among the others
pub find_not : (vs ws : Variables) (y : Text) → find_variable vs y ≡ None → find_variable (vs ++ ws) y ≡ find_variable ws y
find_not vs ws y e = found_on vs ws y ∙ ap (λ o. option_or o (find_variable ws y)) e
