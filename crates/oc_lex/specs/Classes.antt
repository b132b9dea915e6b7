-- The classes of bytes that the lexer tells apart.
use Rattle.std.specs.Prelude.{ℕ, Bool, true, false, ◌==◌, if◌then◌else◌}
use Rattle.oc_lex.specs.declared.bytes.Class.{Class}
use Rattle.oc_lex.specs.declared.bytes.Class.TheVariants as class
use Rattle.oc_lex.specs.Bytes.{is_blank, is_letter, is_digit}

-- the class of a byte: a blank, a letter, `_`, a digit, or any other
unfoldable pub class_of : ℕ → Class
class_of b =
    if is_blank b then class.Blank
    else (if is_letter b then class.Letter
    else (if b == 95 then class.Underscore
    else (if is_digit b then class.Digit else class.Other)))

-- a name may begin with bytes of this class
abbrev pub begins_name_class : Class → Bool
begins_name_class class.Letter = true
begins_name_class class.Underscore = true
begins_name_class _ = false

-- a name may go on with bytes of this class
abbrev pub in_name_class : Class → Bool
in_name_class class.Letter = true
in_name_class class.Underscore = true
in_name_class class.Digit = true
in_name_class _ = false

-- a number may go on with bytes of this class
abbrev pub in_number_class : Class → Bool
in_number_class class.Underscore = true
in_number_class class.Digit = true
in_number_class _ = false
