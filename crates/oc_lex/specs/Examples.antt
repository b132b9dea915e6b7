-- Bytes and digits of a source, by examples.
use Rattle.std.specs.Prelude.{◌≡◌, refl, true, false, codes}
use Rattle.oc_lex.specs.Bytes.{begins_name, in_name, value_of}

-- `_` begins a name
pub begins_name_example : begins_name 95 ≡ true
unfolding begins_name
begins_name_example = refl

-- `7` begins none, but goes on with one
pub begins_name_example_digit : begins_name 55 ≡ false
unfolding begins_name
begins_name_example_digit = refl

pub in_name_example : in_name 55 ≡ true
unfolding begins_name in_name
in_name_example = refl

pub value_of_example : value_of (codes "1_000") ≡ 1000
unfolding value_of
value_of_example = refl
