-- The files of a drill, and its line.
use Rattle.std.specs.Prelude.{ℕ, zero, suc, [], ◌+◌, ◌*◌, ◌%◌, ◌++◌, List, codes, decimal}

-- the most turns of a drill
abbrev pub turn_limit : ℕ
turn_limit = 1000

-- a program that in so many turns adds up a sample and shows each while it is fresh
abbrev pub drill_source : ℕ → List ℕ
drill_source turns =
    codes "sensor s; port p; nv n: i32 = 0; fn main() { for i in 0.."
    ++ (decimal turns ++ codes " { let x = sense(s); Fresh(x); n = n + x; emit(p, x); } }")

-- so many rows of a file, the first of number `k`
abbrev pub rows : (ℕ → List ℕ) → ℕ → ℕ → List ℕ
rows row k zero = []
rows row k (suc n) = row k ++ rows row (k + 1) n

-- row `k` of a drill's sensor file: a sample each 100 ticks
abbrev pub sensor_row : ℕ → List ℕ
sensor_row k = decimal (100 * k) ++ (codes ",s," ++ (decimal ((37 * k) % 1000) ++ codes "\n"))

-- the sensor file of a drill of so many turns
abbrev pub drill_sensors : ℕ → List ℕ
drill_sensors turns = codes "time,sensor,value\n" ++ rows sensor_row 0 turns

-- row `k` of a drill's power file: power for 40 to 69 steps, and none for 0 to 6 ticks
abbrev pub power_row : ℕ → List ℕ
power_row k = decimal (40 + (13 * k) % 30) ++ (codes "," ++ (decimal (k % 7) ++ codes "\n"))

-- the power file of a drill of so many turns
abbrev pub drill_power : ℕ → List ℕ
drill_power turns = codes "on,off\n" ++ rows power_row 0 (24 * turns + 8)

-- the line of a drill: the status of the run of its files, and how many lines and bytes it writes
abbrev pub drill_line : ℕ → ℕ → ℕ → ℕ → List ℕ
drill_line turns status lines bytes =
    codes "drill " ++ (decimal turns ++ (codes " status " ++ (decimal status
    ++ (codes " lines " ++ (decimal lines ++ (codes " bytes " ++ (decimal bytes ++ codes "\n")))))))
