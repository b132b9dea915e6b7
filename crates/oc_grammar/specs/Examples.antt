-- Tokens, operators and expressions, by examples.
use Rattle.std.specs.Prelude.{◌≡◌, refl, pos, true, false, [], ◌∷◌, Some, codes}
use Rattle.oc_tree.specs.Tree.{number, binary, called, value, call, no_args, more_args}
use Rattle.oc_tree.specs.declared.tree.BinaryOp.TheVariants as ops
use Rattle.oc_lex.specs.declared.token.Kind.TheVariants as kinds
use Rattle.oc_lex.specs.declared.token.Word.TheVariants as words
use Rattle.oc_lex.specs.declared.token.Mark.TheVariants as marks
use Rattle.oc_grammar.specs.Lexemes.{Lexemes, named, numeral, keyword, sign, reserved, lexeme_by}
use Rattle.oc_grammar.specs.Fronts.{mark_operator, a_name, a_numeral, a_keyword, a_sign}
use Rattle.oc_grammar.specs.Limits.{the_depths}
use Rattle.oc_grammar.specs.Expressions.{operators, Spells, literal}
use Rattle.oc_grammar.specs.Programs.{with_sensor, empty_program, sensor_item, no_item, an_item, SpellsProgram}

-- `atomic` stands in the larger grammar alone
pub lexeme_by_example :
    lexeme_by false 3 (codes "atomic") (kinds.Word words.Atomic) ≡ reserved 3
lexeme_by_example = refl

pub lexeme_by_example_larger :
    lexeme_by true 3 (codes "atomic") (kinds.Word words.Atomic) ≡ keyword 3 words.Atomic
lexeme_by_example_larger = refl

pub mark_operator_example : mark_operator marks.LessEqual ≡ Some (ops.Le, 3)
mark_operator_example = refl

-- `1 + f(2 * 3)`: the operators of an argument are its own
pub operators_example :
    operators (binary ops.Add (number (pos 1))
    (called (call (codes "f")
    (more_args (value (binary ops.Mul (number (pos 2)) (number (pos 3)))) no_args)))) ≡ 1
operators_example = refl

-- the token `7` spells the number 7
pub Spells_example : Spells the_depths 33 0 (number (pos 7)) (numeral 1 (pos 7) ∷ []) []
Spells_example = literal a_numeral

-- the tokens of `sensor t;`, all in line 1
abbrev pub sensor_tokens : Lexemes
sensor_tokens =
    keyword 1 words.Sensor ∷ named 1 (codes "t") ∷ sign 1 marks.Semicolon ∷ []

-- they spell the program that declares this sensor and nothing else
pub SpellsProgram_example :
    SpellsProgram the_depths (with_sensor 1 (codes "t") (empty_program 1)) sensor_tokens
SpellsProgram_example = an_item (sensor_item a_keyword a_name a_sign) no_item
