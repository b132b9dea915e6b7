-- Words: 32-bit numbers in two's complement.
use Rattle.std.specs.Prelude.{ℤ, pos, negsuc, Bool, ◌&&◌, cond, int_le, int_rem, Option, Some, None, if◌then◌else◌}
use Rattle.std.specs.Int.{w32, int_wrapping_add, int_wrapping_sub, int_wrapping_mul, int_wrapping_div, int_wrapping_neg}
use Rattle.std.specs.Ordering.{int_eq}
use Rattle.oc_tree.specs.declared.tree.UnaryOp.{UnaryOp}
use Rattle.oc_tree.specs.declared.tree.UnaryOp.TheVariants.{Neg, Not}

-- a number of 32 bits
abbrev pub is_word : ℤ → Bool
is_word z = int_le (negsuc 2147483647) z && int_le z (pos 2147483647)

-- a truth value as a word: 1 or 0
abbrev pub truth : Bool → ℤ
truth b = cond b (pos 1) (pos 0)

-- the sum of two words, which wraps
abbrev pub sum_of : ℤ → ℤ → ℤ
sum_of x y = int_wrapping_add w32 x y

-- the difference of two words, which wraps
abbrev pub difference_of : ℤ → ℤ → ℤ
difference_of x y = int_wrapping_sub w32 x y

-- the product of two words, which wraps
abbrev pub product_of : ℤ → ℤ → ℤ
product_of x y = int_wrapping_mul w32 x y

-- this number; none where the divisor is zero
abbrev pub unless_zero : ℤ → ℤ → Option ℤ
unless_zero divisor z = if int_eq divisor (pos 0) then None else Some z

-- the quotient of two words, truncated toward zero, none where the divisor is zero; the least word
-- divided by -1 is itself
abbrev pub quotient_of : ℤ → ℤ → Option ℤ
quotient_of x y = unless_zero y (int_wrapping_div w32 x y)

-- the remainder of two words, with the sign of the dividend, none where the divisor is zero
abbrev pub remainder_of : ℤ → ℤ → Option ℤ
remainder_of x y = unless_zero y (int_rem x y)

-- the word that a prefix operator makes of one: `-` wraps, and `!` gives 1 for 0 and else 0
abbrev pub unary_of : UnaryOp → ℤ → ℤ
unary_of Neg x = int_wrapping_neg w32 x
unary_of Not x = truth (int_eq x (pos 0))
