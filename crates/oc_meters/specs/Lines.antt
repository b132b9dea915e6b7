-- The lines of meters.
use Rattle.std.specs.Prelude.{ℕ, zero, suc, List, ◌∷◌, ◌++◌, map, codes, decimal}
use Rattle.std.specs.List.{flat_map}
use Rattle.oc_io.specs.Lines.{line_of}
use Rattle.oc_meters.specs.Tally.{Reading}

-- the name of a meter's kind
abbrev pub kind_name : ℕ → List ℕ
kind_name zero = codes "counts"
kind_name (suc zero) = codes "off"
kind_name (suc (suc k)) = codes "retries"

-- a further number, with the space before it
abbrev pub number_field : ℕ → List ℕ
number_field number = codes " " ++ decimal number

-- the line of a meter: `meter`, its name and its numbers
abbrev pub meter_line : Reading → List ℕ
meter_line r = line_of (codes "meter" ∷ kind_name r.kind ∷ map decimal r.numbers)

-- the lines of these meters, in their order
abbrev pub meter_lines : List Reading → List ℕ
meter_lines rs = flat_map meter_line rs
