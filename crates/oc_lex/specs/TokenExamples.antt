-- The tokens of a source, by examples.
use Rattle.std.proofs.Common.{le_refl}
use Rattle.std.specs.Prelude.{refl, [], ◌∷◌, codes}
use Rattle.oc_lex.specs.declared.piece.Piece.TheVariants as piece
use Rattle.oc_lex.specs.declared.token.Kind.TheVariants as kinds
use Rattle.oc_lex.specs.declared.token.Mark.TheVariants as marks
use Rattle.oc_lex.specs.Tokens.{AreTokens, none, between, token}

-- a blank is no token
pub AreTokens_example : AreTokens (codes "\n") []
AreTokens_example =
    between {p = piece.Blank}
    (record { within = le_refl 1; is_piece = refl; no_longer = λ q m within is. within }) tt none

-- the one token of `;`, from the byte 0 to the byte 1, in line 1
pub AreTokens_example_mark :
    AreTokens (codes ";")
    (record { kind = kinds.Mark marks.Semicolon; start = 0; end = 1; line = 1 } ∷ [])
AreTokens_example_mark =
    token {n = 1} {p = piece.Mark marks.Semicolon}
    (record { within = le_refl 1; is_piece = refl; no_longer = λ q m within is. within }) refl none
