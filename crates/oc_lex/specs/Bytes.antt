-- Bytes of a source, and the value of digits.
use Rattle.std.specs.Prelude.{ℕ, ◌+◌, ◌-◌, ◌*◌, Bool, not, ◌&&◌, ◌||◌, List, fold, nat_le, ◌==◌, if◌then◌else◌}

-- a number lies between two others, or is one of them
abbrev pub between : ℕ → ℕ → ℕ → Bool
between a b n = nat_le a n && nat_le n b

-- a space, a tab, a carriage return or a line feed
abbrev pub is_blank : ℕ → Bool
is_blank b = b == 32 || b == 9 || b == 13 || b == 10

-- an ASCII letter
abbrev pub is_letter : ℕ → Bool
is_letter b = between 97 122 b || between 65 90 b

-- an ASCII digit
abbrev pub is_digit : ℕ → Bool
is_digit b = between 48 57 b

-- a name begins with this byte: a letter or `_`
unfoldable pub begins_name : ℕ → Bool
begins_name b = is_letter b || b == 95

-- a name goes on with this byte: a letter, a digit or `_`
unfoldable pub in_name : ℕ → Bool
in_name b = begins_name b || is_digit b

-- a number goes on with this byte: a digit or `_`
unfoldable pub in_number : ℕ → Bool
in_number b = b == 95 || is_digit b

-- a comment may go on with this byte
abbrev pub in_line : ℕ → Bool
in_line b = not (b == 10)

-- a number with one more digit behind it; a `_` counts nothing
abbrev pub with_digit : ℕ → ℕ → ℕ
with_digit n d = if d == 95 then n else n * 10 + (d - 48)

-- the value of digits, among which `_` may stand
unfoldable pub value_of : List ℕ → ℕ
value_of digits = fold with_digit 0 digits
