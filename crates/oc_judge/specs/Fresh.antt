-- The age of fresh variables, from the last name to the first.
use Rattle.std.specs.Prelude.{ℕ, List, [], ◌∷◌, if◌then◌else◌}
use Rattle.oc_tree.specs.Names.{Text}
use Rattle.oc_meaning.specs.Store.{Store, Binding, held_at, place_of}
use Rattle.oc_meaning.specs.Uses.{is_fresh}
use Rattle.oc_steps.specs.Ages.{join_ages}

-- what one name adds
abbrev pub with_name : List Binding → Store → Text → List ℕ → List ℕ
with_name env σ x age =
    if is_fresh env x then join_ages (held_at σ (place_of env x)).samples age else age

-- what these names add to the age of those behind them
abbrev pub with_names : List Binding → Store → List Text → List ℕ → List ℕ
with_names env σ [] age = age
with_names env σ (x ∷ xs) age = with_name env σ x (with_names env σ xs age)
