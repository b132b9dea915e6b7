-- The rows in short pieces.
use Rattle.std.specs.Prelude.{ℕ, ◌-◌, ◌*◌, ◌/◌, ◌≤◌, ⊤, false, List, [], ◌∷◌, ◌++◌, replicate}
use Rattle.std.specs.List.{flat_map}
use Rattle.oc_io.specs.declared.period.Period.{Period}

-- how many whole pieces leave at least one of these steps
abbrev pub whole_pieces : ℕ → ℕ → ℕ
whole_pieces len steps = (steps - 1) / len

-- a piece with no outage
abbrev pub whole_piece : ℕ → Period
whole_piece len = record { on = len; off = 0; cut = false }

-- a row in pieces: whole ones, and a last one with the steps left and the row's outage and mark
abbrev pub cut_row : ℕ → Period → List Period
cut_row len row =
    replicate (whole_pieces len row.on) (whole_piece len)
    ++ record row { on = row.on - len * whole_pieces len row.on } ∷ []

-- rows in pieces of so many steps
abbrev pub cut_rows : ℕ → List Period → List Period
cut_rows len rows = flat_map (cut_row len) rows

-- the pieces left, where `told` steps of the first row were told
abbrev pub cut_after : ℕ → ℕ → List Period → List Period
cut_after len told [] = []
cut_after len told (row ∷ rest) =
    cut_row len (record row { on = row.on - told }) ++ cut_rows len rest

-- the first row has so many steps
abbrev pub IsPartOfFirst : ℕ → List Period → Type 0
IsPartOfFirst told [] = ⊤
IsPartOfFirst told (row ∷ rest) = told ≤ row.on

-- the most steps of a piece, and the periods left
pub record Cutting : Type 0 where
  pub len : ℕ
  pub left : List Period
