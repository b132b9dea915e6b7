-- Fronts of what is said, and how reports end.
use Rattle.std.specs.Prelude.{◌≡◌, ℕ, List, [], ◌∷◌, ◌++◌}
use Rattle.oc_tree.specs.Said.{Told}
use Rattle.oc_tree.specs.declared.said.Said.{Said}

-- the first list of what was said is a front part of the second
abbrev pub IsPrefixOf : List Said → List Said → Type 0
IsPrefixOf xs ys = (rest : List Said) × (xs ++ rest ≡ ys)

-- the last item of a report says this
abbrev pub EndsWith : List Told → Said → Type 0
EndsWith report s =
    (before : List Told) × (tick : ℕ) × (report ≡ before ++ record { tick = tick; said = s } ∷ [])
