-- The rows of a file are in order.
use Rattle.std.proofs.Common.{ℕ, ℤ, ◌+◌, ◌≤◌, ◌<◌, ◌≡◌, List, [], ◌∷◌, length, Option, Some, None, arith, inl, inr, refl}
use Rattle.std.specs.Prelude.{Bool, nat_lt, get_or, ◌==◌}
use Rattle.std.specs.List.{position_from}
use Rattle.std.specs.Str.{bytes_eq}
use Rattle.std.proofs.lemmas.Bool.{cases_Bool}
use Rattle.std.proofs.lemmas.Bool.Decides.{nat_tests}
use Rattle.oc_rows.specs.Numbers.{number_of}
use Rattle.oc_sensors.specs.declared.sensors.Row.{Row}
use Rattle.oc_sensors.specs.File.{Readings, readings, bad, row_after, row_of, row_then, sensor_of, sensor_row, sensor_rows, value_of, with_row}
use Rattle.oc_sensors.specs.Keeping.{Ordered}

found : (p : List ℕ → Bool) (from : ℕ) (names : List (List ℕ)) (place : ℕ) → position_from p from names ≡ Some place → place < from + length names
found p from [] place e = cc e
found p from (name ∷ rest) place e = elim (cases_Bool (p name)) [
  | inl here ↦ let f = rw here at e in let same : from ≡ place = cc f in omega arith
  | inr on ↦ let f = rw on at e in omega (arith, found p (from + 1) rest place f)
]

named : (time : ℕ) (sensor : Option ℕ) (value : Option ℤ) (row : Row) → row_of time sensor value ≡ Some row → (row.time ≡ time) × (sensor ≡ Some row.sensor)
named time None value row e = cc e
named time (Some sensor) None row e = cc e
named time (Some sensor) (Some value) row e = grind arith

later : (before : ℕ) (time sensor : Option ℕ) (value : Option ℤ) (row : Row) → row_after before time sensor value ≡ Some row → (before ≤ row.time) × (sensor ≡ Some row.sensor)
later before None sensor value row e = cc e
later before (Some time) sensor value row e = elim (cases_Bool (nat_lt time before)) [
  | inl early ↦ let f = rw early at e in cc f
  | inr good ↦
      let f = rw good at e in
      let (t, s) = named time sensor value row f in
      (grind (arith, nat_tests), s)
]

-- a row is no earlier than the one before it, and of a sensor
row_fits : (names : List (List ℕ)) (before : ℕ) (fields : List (List ℕ)) (row : Row) → sensor_row names before fields ≡ Some row → (before ≤ row.time) × (row.sensor < length names)
row_fits names before fields row e = elim (cases_Bool (length fields == 3)) [
  | inl three ↦
      let f = rw three at e in
      let (l, s) = later before (number_of (get_or fields 0 [])) (sensor_of names (get_or fields 1 [])) (value_of (get_or fields 2 [])) row f in
      (l, omega (arith, found (λ known. bytes_eq known (get_or fields 1 [])) 0 names row.sensor s))
  | inr other ↦ let f = rw other at e in cc f
]

-- the rows of a file are in order, and of sensors
pub rows_fit : (names : List (List ℕ)) (number before : ℕ) (left : List (List (List ℕ))) (rows : List Row) → sensor_rows names number before left ≡ readings rows → Ordered (length names) before rows
rows_fit names number before [] rows e = let none : [] ≡ rows = cc e in rw (← none) tt
rows_fit names number before (fields ∷ rest) rows e = by (sensor_row names before fields) refl e (λ row. rows_fit names (number + 1) row.time rest)
  where
    first : (row : Row) (more : Readings) → ((rs : List Row) → more ≡ readings rs → Ordered (length names) row.time rs) → (before ≤ row.time) × (row.sensor < length names)
        → with_row row more ≡ readings rows → Ordered (length names) before rows
    first row (readings rs) rest fits e = let all : row ∷ rs ≡ rows = cc e in rw (← all) (fits.0, fits.1, rest rs refl)
    first row (bad n) rest fits e = cc e

    by : (r : Option Row) → sensor_row names before fields ≡ r → row_then number r (λ row. sensor_rows names (number + 1) row.time rest) ≡ readings rows
        → ((row : Row) (rs : List Row) → sensor_rows names (number + 1) row.time rest ≡ readings rs → Ordered (length names) row.time rs) → Ordered (length names) before rows
    by (Some row) is e more = first row (sensor_rows names (number + 1) row.time rest) (more row) (row_fits names before fields row is) e
    by None is e more = cc e
