-- What sensors show, and the rows of their file, by examples.
use Rattle.std.specs.Prelude.{◌≡◌, refl, ℕ, pos, negsuc, List, [], ◌∷◌, Some, None, codes}
use Rattle.oc_sensors.specs.declared.sensors.Row.{Row}
use Rattle.oc_sensors.specs.History.{history}
use Rattle.oc_sensors.specs.File.{value_of, sensor_row, readings, bad, readings_of}

-- the sensor 0 shows 5 from the tick 0 on, and 7 from the tick 10 on
abbrev pub two_rows : List Row
two_rows =
    record { time = 0; sensor = 0; value = pos 5 }
    ∷ record { time = 10; sensor = 0; value = pos 7 } ∷ []

-- two sensors, `a` and `b`
abbrev pub two_names : List (List ℕ)
two_names = codes "a" ∷ codes "b" ∷ []

pub history_example : history two_rows 0 10 ≡ pos 7
history_example = refl

pub history_example_before : history two_rows 0 9 ≡ pos 5
history_example_before = refl

pub history_example_other : history two_rows 1 10 ≡ pos 0
history_example_other = refl

pub value_of_example : value_of (codes "-2147483648") ≡ Some (negsuc 2147483647)
value_of_example = refl

pub value_of_example_above : value_of (codes "2147483648") ≡ None
value_of_example_above = refl

-- behind a row of the time 10
pub sensor_row_example :
    sensor_row two_names 10 (codes "12" ∷ codes "b" ∷ codes "-1" ∷ [])
    ≡ Some (record { time = 12; sensor = 1; value = negsuc 0 })
sensor_row_example = refl

-- a time below that of the row before is refused
pub sensor_row_example_order :
    sensor_row two_names 10 (codes "9" ∷ codes "a" ∷ codes "1" ∷ []) ≡ None
sensor_row_example_order = refl

-- the file `time,sensor,value`, `0,a,5`
pub readings_of_example :
    readings_of two_names ((codes "time" ∷ codes "sensor" ∷ codes "value" ∷ [])
    ∷ (codes "0" ∷ codes "a" ∷ codes "5" ∷ []) ∷ [])
    ≡ readings (record { time = 0; sensor = 0; value = pos 5 } ∷ [])
readings_of_example = refl

-- the file `time,sensor,value`, `0,c,5`, whose second row names no sensor
pub readings_of_example_bad :
    readings_of two_names ((codes "time" ∷ codes "sensor" ∷ codes "value" ∷ [])
    ∷ (codes "0" ∷ codes "c" ∷ codes "5" ∷ []) ∷ [])
    ≡ bad 2
readings_of_example_bad = refl
