-- What sensors show over time.
use Rattle.std.specs.Prelude.{ℕ, ℤ, pos, ◌≡◌, ◌==◌, ◌&&◌, true, List, [], ◌∷◌, nat_le, if◌then◌else◌}
use Rattle.oc_tree.specs.Word.{is_word}
use Rattle.oc_sensors.specs.declared.sensors.Row.{Row}

-- the value of a sensor at a tick after these rows, where it was this one before them
abbrev pub shown_after : ℤ → List Row → ℕ → ℕ → ℤ
shown_after value [] sensor tick = value
shown_after value (row ∷ rest) sensor tick =
    shown_after
    (if (row.sensor == sensor) && nat_le row.time tick then row.value else value)
    rest sensor tick

-- the value of the last row of a sensor, in file order, whose time is at most a tick; 0 where there
-- is none
abbrev pub history : List Row → ℕ → ℕ → ℤ
history rows sensor tick = shown_after (pos 0) rows sensor tick

-- whatever the rows show is a word
abbrev pub ShowsWords : List Row → Type 0
ShowsWords rows = (sensor tick : ℕ) → is_word (history rows sensor tick) ≡ true

-- how many sensors there are, the rows, and the tick of the last call
pub record Told : Type 0 where
  pub sensors : ℕ
  pub rows : List Row
  pub now : ℕ
