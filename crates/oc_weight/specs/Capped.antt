-- Numbers that stop one past the greatest weight that is allowed.
use Rattle.std.specs.Prelude.{ℕ, min}

-- one more than the greatest weight that is allowed
abbrev pub weight_cap : ℕ
weight_cap = 4294967297

-- a number that stops at `weight_cap`
abbrev pub capped : ℕ → ℕ
capped n = min n weight_cap
