-- What is wrong with the first bad row of a sensor file.
use Rattle.std.specs.Prelude.{ℕ, ◌==◌, ◌≡◌, ⊤, List, [], ◌∷◌, length, get_or, Option, Some, None, nat_lt, if◌then◌else◌}
use Rattle.oc_rows.specs.Numbers.{number_of}
use Rattle.oc_sensors.specs.declared.sensors.Row.{Row}
use Rattle.oc_sensors.specs.declared.file.SensorWhat.{SensorWhat}
use Rattle.oc_sensors.specs.declared.file.SensorWhat.TheVariants as what
use Rattle.oc_sensors.specs.declared.file.SensorError.{SensorError}
use Rattle.oc_sensors.specs.declared.file.SensorError.TheVariants as error
use Rattle.oc_sensors.specs.File.{Readings, bad, is_header, sensor_of, sensor_row}

-- why fields with a time are no row: there is no such sensor, or the value is none
abbrev pub why_named : Option ℕ → SensorWhat
why_named None = what.Sensor
why_named (Some sensor) = what.Value

-- why three fields are no row, after a row of the time `before`
abbrev pub why_timed : ℕ → Option ℕ → Option ℕ → SensorWhat
why_timed before None sensor = what.Time
why_timed before (Some time) sensor = if nat_lt time before then what.Order else why_named sensor

-- why fields are no row, after a row of this time
abbrev pub why_row : List (List ℕ) → ℕ → List (List ℕ) → SensorWhat
why_row names before fields =
    if length fields == 3
    then why_timed before (number_of (get_or fields 0 [])) (sensor_of names (get_or fields 1 []))
    else what.Fields

-- the cause of a row, where it is bad, or else that of those behind it
abbrev pub why_then : Option Row → SensorWhat → (Row → SensorWhat) → SensorWhat
why_then (Some row) why more = more row
why_then None why more = why

-- what is wrong with the first bad one of these rows, after a row of this time; where none is bad it says nothing
abbrev pub why_rows : List (List ℕ) → ℕ → List (List (List ℕ)) → SensorWhat
why_rows names before [] = what.Header
why_rows names before (fields ∷ rest) =
    why_then (sensor_row names before fields) (why_row names before fields)
    (λ row. why_rows names row.time rest)

-- what is wrong with the first bad row of a file with these rows
abbrev pub why_file : List (List ℕ) → List (List (List ℕ)) → SensorWhat
why_file names [] = what.Header
why_file names (header ∷ rest) = if is_header header then why_rows names 0 rest else what.Header

-- an error names the first bad row, or comes of want of memory
abbrev pub ExplainsSensors : Readings → SensorError → Type 0
ExplainsSensors said (error.Row row cause) = said ≡ bad row
ExplainsSensors said error.Memory = ⊤

-- an error at a row tells this cause
abbrev pub TellsCause : SensorWhat → SensorError → Type 0
TellsCause why (error.Row row cause) = cause ≡ why
TellsCause why error.Memory = ⊤
