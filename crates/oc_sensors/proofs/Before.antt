-- Rows before those left.
use Rattle.std.proofs.Common.{List, ◌++◌}
use Rattle.oc_sensors.specs.declared.sensors.Row.{Row}
use Rattle.oc_sensors.specs.File.{Readings, readings, bad}

abbrev pub all_with : List Row → Readings → Readings
all_with rows (readings more) = readings (rows ++ more)
all_with rows (bad number) = bad number
