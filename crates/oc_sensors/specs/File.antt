-- The rows of a sensor file, or its first bad row.
use Rattle.std.specs.Prelude.{ℕ, ℤ, pos, neg_ℤ, ◌+◌, ◌^◌, ◌==◌, ◌&&◌, Bool, List, [], ◌∷◌, length, get_or, codes, Option, Some, None, option_and_then}
use Rattle.std.specs.Prelude.{nat_le, nat_lt, if◌then◌else◌}
use Rattle.std.specs.List.{position_from}
use Rattle.std.specs.Str.{bytes_eq}
use Rattle.oc_rows.specs.Numbers.{number_of}
use Rattle.oc_rows.specs.Rows.{file_rows}
use Rattle.oc_sensors.specs.declared.sensors.Row.{Row}

-- what a sensor file says: its rows, or the number of its first bad row
pub data Readings : Type 0 where
  readings : List Row → Readings
  bad : ℕ → Readings

-- a number as a value, where 32 bits hold it
abbrev pub plain : ℕ → Option ℤ
plain n = if nat_lt n (2 ^ 31) then Some (pos n) else None

-- a number with a `-` before it as a value, where 32 bits hold it
abbrev pub negative : ℕ → Option ℤ
negative n = if nat_le n (2 ^ 31) then Some (neg_ℤ (pos n)) else None

-- the value that these bytes spell: a number, perhaps after a `-`
abbrev pub value_of : List ℕ → Option ℤ
value_of [] = None
value_of (first ∷ rest) =
    if first == 45 then option_and_then negative (number_of rest)
    else option_and_then plain (number_of (first ∷ rest))

-- the row of this time, sensor and value
abbrev pub row_of : ℕ → Option ℕ → Option ℤ → Option Row
row_of time (Some sensor) (Some value) =
    Some (record { time = time; sensor = sensor; value = value })
row_of time sensor value = None

-- the row of this time, sensor and value, where the row before it has the time `before`
abbrev pub row_after : ℕ → Option ℕ → Option ℕ → Option ℤ → Option Row
row_after before None sensor value = None
row_after before (Some time) sensor value =
    if nat_lt time before then None else row_of time sensor value

-- the place of a name among the names
abbrev pub sensor_of : List (List ℕ) → List ℕ → Option ℕ
sensor_of names name = position_from (λ known. bytes_eq known name) 0 names

-- the row of these fields, after a row of this time
abbrev pub sensor_row : List (List ℕ) → ℕ → List (List ℕ) → Option Row
sensor_row names before fields =
    if length fields == 3
    then row_after before (number_of (get_or fields 0 [])) (sensor_of names (get_or fields 1 []))
    (value_of (get_or fields 2 []))
    else None

-- a row is `time,sensor,value`
abbrev pub is_header : List (List ℕ) → Bool
is_header fields =
    (length fields == 3) && bytes_eq (get_or fields 0 []) (codes "time")
    && bytes_eq (get_or fields 1 []) (codes "sensor")
    && bytes_eq (get_or fields 2 []) (codes "value")

-- one row before those that a sensor file says
abbrev pub with_row : Row → Readings → Readings
with_row row (readings rows) = readings (row ∷ rows)
with_row row (bad number) = bad number

-- a row, and then the rows after it
abbrev pub row_then : ℕ → Option Row → (Row → Readings) → Readings
row_then number (Some row) more = with_row row (more row)
row_then number None more = bad number

-- the rows from this number on, after a row of this time
abbrev pub sensor_rows : List (List ℕ) → ℕ → ℕ → List (List (List ℕ)) → Readings
sensor_rows names number before [] = readings []
sensor_rows names number before (fields ∷ rest) =
    row_then number (sensor_row names before fields)
    (λ row. sensor_rows names (number + 1) row.time rest)

-- what the rows of a sensor file say, the first of which must be the header
abbrev pub readings_of : List (List ℕ) → List (List (List ℕ)) → Readings
readings_of names [] = bad 1
readings_of names (header ∷ rest) =
    if is_header header then sensor_rows names 2 0 rest else bad 1

-- what the bytes of a sensor file say, with the sensors of these names
abbrev pub sensor_file : List (List ℕ) → List ℕ → Readings
sensor_file names bytes = readings_of names (file_rows bytes)
