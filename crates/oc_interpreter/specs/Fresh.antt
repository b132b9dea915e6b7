-- The samples of fresh variables, from the last name to the first.
use Rattle.std.specs.Prelude.{ℕ, List, [], ◌∷◌, if◌then◌else◌}
use Rattle.oc_tree.specs.Names.{Text}
use Rattle.oc_tree.specs.Samples.{union}
use Rattle.oc_meaning.specs.Store.{Store, Binding, held_at, place_of}
use Rattle.oc_meaning.specs.Uses.{is_fresh}

-- what one name adds
abbrev pub with_name : List Binding → Store → Text → List ℕ → List ℕ
with_name env σ x samples =
    if is_fresh env x then union (held_at σ (place_of env x)).samples samples else samples

-- what these names add to the samples of those behind them
abbrev pub with_names : List Binding → Store → List Text → List ℕ → List ℕ
with_names env σ [] samples = samples
with_names env σ (x ∷ xs) samples = with_name env σ x (with_names env σ xs samples)
