-- What is kept between samples.
use Rattle.std.specs.Prelude.{ℕ, ℤ, pos, ◌≤◌, ◌<◌, ◌≡◌, ⊤, List, [], ◌∷◌, length, get_or, drop}
use Rattle.oc_sensors.specs.declared.sensors.Row.{Row}
use Rattle.oc_sensors.specs.History.{history, shown_after}

-- times don't fall, from this one on, and the sensors are among so many
abbrev pub Ordered : ℕ → ℕ → List Row → Type 0
Ordered sensors time [] = ⊤
Ordered sensors time (row ∷ rest) =
    (time ≤ row.time) × (row.sensor < sensors) × Ordered sensors row.time rest

-- from a place in the rows on, what was shown last leads to the whole history at every later tick
abbrev pub Leads : List Row → List ℤ → ℕ → ℕ → Type 0
Leads rows last place now =
    (sensor tick : ℕ) → sensor < length last → now ≤ tick
    → shown_after (get_or last sensor (pos 0)) (drop place rows) sensor tick
    ≡ history rows sensor tick

-- what was shown last, with the rows from a place on, is the history, and those rows are in order
pub record Keeps (rows : List Row) (last : List ℤ) (place now : ℕ) : Type 0 where
  pub leads : Leads rows last place now
  pub ordered : Ordered (length last) 0 (drop place rows)
