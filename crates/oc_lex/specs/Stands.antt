-- What the tokens of a source say, one by one.
use Rattle.std.specs.Prelude.{◌≡◌, ℕ, pos, ◌+◌, ◌<◌, ◌≤◌, List, [], ◌∷◌, length, take, slice_range}
use Rattle.oc_lex.specs.declared.piece.Piece.TheVariants as piece
use Rattle.oc_lex.specs.declared.token.Kind.{Kind}
use Rattle.oc_lex.specs.declared.token.Kind.TheVariants as kinds
use Rattle.oc_lex.specs.declared.token.Token.{Token}
use Rattle.oc_lex.specs.Bytes.{value_of}
use Rattle.oc_lex.specs.Spellings.{word_spelling, mark_spelling, SpellsNoWord}
use Rattle.oc_lex.specs.Pieces.{IsPiece}
use Rattle.oc_io.specs.Counts.{line_feeds}

-- a name of the language: a letter or `_`, then letters, digits and `_`, and none of the words
abbrev pub IsName : List ℕ → Type 0
IsName text = IsPiece piece.Name text × SpellsNoWord text

-- how a token of a kind may be spelled
abbrev pub SpellsKind : Kind → List ℕ → Type 0
SpellsKind kinds.Name text = IsName text
SpellsKind (kinds.Number v) text =
    IsPiece piece.Number text × (v ≡ pos (value_of text)) × (value_of text ≤ 2147483647)
SpellsKind (kinds.Word w) text = word_spelling w ≡ text
SpellsKind (kinds.Mark m) text = mark_spelling m ≡ text

-- a token stands in its source: it isn't empty, it has its line, and its bytes spell its kind
pub record StandsIn (source : List ℕ) (t : Token) : Type 0 where
  pub some : t.start < t.end
  pub within : t.end ≤ length source
  pub line : t.line ≡ 1 + line_feeds (take t.start source)
  pub spelled : SpellsKind t.kind (slice_range source t.start t.end)

-- tokens follow each other between two places, and none is empty
abbrev pub InOrder : ℕ → List Token → ℕ → Type 0
InOrder from [] to = from ≤ to
InOrder from (t ∷ ts) to = (from ≤ t.start) × (t.start < t.end) × InOrder t.end ts to
