-- Numbers in plain digits.
use Rattle.std.specs.Prelude.{ℕ, ◌+◌, ◌-◌, ◌*◌, ◌^◌, ◌&&◌, List, [], ◌∷◌, length, Option, Some, None, nat_lt, nat_le, if◌then◌else◌}
use Rattle.std.specs.List.{list_all}
use Rattle.std.specs.Char.{is_ascii_digit}

-- the number that digits spell, written after those of a first number
abbrev pub spelled_after : ℕ → List ℕ → ℕ
spelled_after first [] = first
spelled_after first (digit ∷ rest) = spelled_after (first * 10 + (digit - 48)) rest

-- the number that digits spell
abbrev pub spelled : List ℕ → ℕ
spelled digits = spelled_after 0 digits

-- the number that 1 to 19 digits spell, where it is below 2^63
abbrev pub number_of : List ℕ → Option ℕ
number_of bytes =
    if nat_le 1 (length bytes) && nat_le (length bytes) 19 && list_all is_ascii_digit bytes
    && nat_lt (spelled bytes) (2 ^ 63)
    then Some (spelled bytes) else None
