-- Pieces: blanks, comments and tokens, of which a source is made.
use Rattle.std.specs.Prelude.{◌≡◌, ℕ, ◌≤◌, true, List, [], ◌∷◌, length, take}
use Rattle.std.specs.List.{AllPass}
use Rattle.oc_lex.specs.declared.piece.Piece.{Piece}
use Rattle.oc_lex.specs.declared.piece.Piece.TheVariants as piece
use Rattle.oc_lex.specs.Bytes.{is_blank, is_digit, begins_name, in_name, in_number, in_line}
use Rattle.oc_lex.specs.Spellings.{mark_spelling}

-- A text is a piece: one blank; `//` and what follows in its line; a letter or `_`, then letters,
-- digits and `_`; a digit, then digits and `_`; a mark.
abbrev pub IsPiece : Piece → List ℕ → Type 0
IsPiece piece.Blank (b ∷ []) = is_blank b ≡ true
IsPiece piece.Comment (a ∷ b ∷ bs) = (a ≡ 47) × (b ≡ 47) × AllPass in_line bs
IsPiece piece.Name (b ∷ bs) = (begins_name b ≡ true) × AllPass in_name bs
IsPiece piece.Number (b ∷ bs) = (is_digit b ≡ true) × AllPass in_number bs
IsPiece (piece.Mark m) bs = mark_spelling m ≡ bs
IsPiece _ _ = ⊥

-- the first n bytes are a piece, and no more of them are
pub record Longest (p : Piece) (n : ℕ) (bytes : List ℕ) : Type 0 where
  pub within : n ≤ length bytes
  pub is_piece : IsPiece p (take n bytes)
  pub no_longer : (q : Piece) (m : ℕ) → m ≤ length bytes → IsPiece q (take m bytes) → m ≤ n

-- no front part of these bytes is a piece
abbrev pub BeginNoPiece : List ℕ → Type 0
BeginNoPiece bytes = (q : Piece) (m : ℕ) → m ≤ length bytes → IsPiece q (take m bytes) → ⊥
