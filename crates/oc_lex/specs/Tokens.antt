-- The tokens of a source, and its first fault.
use Rattle.std.specs.Prelude.{◌≡◌, ℕ, pos, true, ◌+◌, ◌<◌, ◌⊎◌, List, [], ◌∷◌, length, take, drop, ◌==◌, if◌then◌else◌, Option, Some, None, Result, Ok, Err}
use Rattle.oc_io.specs.Counts.{line_feeds}
use Rattle.oc_lex.specs.declared.piece.Piece.{Piece}
use Rattle.oc_lex.specs.declared.piece.Piece.TheVariants as piece
use Rattle.oc_lex.specs.declared.token.Kind.{Kind}
use Rattle.oc_lex.specs.declared.token.Kind.TheVariants as kinds
use Rattle.oc_lex.specs.declared.token.Token.{Token}
use Rattle.oc_lex.specs.declared.lexer.LexError.{LexError}
use Rattle.oc_lex.specs.declared.lexer.LexError.TheVariants as errors
use Rattle.oc_lex.specs.Bytes.{is_letter, value_of}
use Rattle.oc_lex.specs.Spellings.{word_spelling, SpellsNoWord}
use Rattle.oc_lex.specs.Pieces.{Longest, BeginNoPiece}

-- a piece stands between tokens: a blank or a comment
abbrev pub IsBetween : Piece → Type 0
IsBetween piece.Blank = Unit {0}
IsBetween piece.Comment = Unit {0}
IsBetween _ = ⊥

-- these bytes begin with a letter
abbrev pub BeginsWithLetter : List ℕ → Type 0
BeginsWithLetter [] = ⊥
BeginsWithLetter (b ∷ bs) = is_letter b ≡ true

-- a number that is refused: it is too great, or a letter follows directly
abbrev pub IsRefused : List ℕ → List ℕ → Type 0
IsRefused digits after = (2147483647 < value_of digits) ⊎ BeginsWithLetter after

-- the kind of token that a piece is, from its text and what follows
abbrev pub IsKind : Piece → List ℕ → List ℕ → Kind → Type 0
IsKind piece.Name text after (kinds.Word w) = word_spelling w ≡ text
IsKind piece.Name text after kinds.Name = SpellsNoWord text
IsKind piece.Number text after (kinds.Number v) = (v ≡ pos (value_of text)) × ¬ IsRefused text after
IsKind (piece.Mark m) text after (kinds.Mark n) = m ≡ n
IsKind _ _ _ _ = ⊥

-- the token of n bytes from a place on; its line is 1 plus the number of line feeds before it
abbrev pub token_at : List ℕ → ℕ → ℕ → Kind → Token
token_at source at n k =
    record { kind = k; start = at; end = at + n; line = 1 + line_feeds (take at source) }

-- Lexed source at tokens to: read from the left, the longest piece first, these tokens lead from
-- the place `at` to the place `to`.
pub data Lexed (source : List ℕ) : ℕ → List Token → ℕ → Type 0 where
  none : {at : ℕ} → Lexed source at [] at
  between : {at n to : ℕ} {p : Piece} {ts : List Token}
      → Longest p n (drop at source) → IsBetween p → Lexed source (at + n) ts to
      → Lexed source at ts to
  token : {at n to : ℕ} {p : Piece} {k : Kind} {ts : List Token}
      → Longest p n (drop at source)
      → IsKind p (take n (drop at source)) (drop n (drop at source)) k → Lexed source (at + n) ts to
      → Lexed source at (token_at source at n k ∷ ts) to

-- a list is that of the tokens of a source
abbrev pub AreTokens : List ℕ → List Token → Type 0
AreTokens source ts = Lexed source 0 ts (length source)

-- why the source can't be read on at a place: no token begins with the byte there, or the number
-- that begins there is refused
abbrev pub IsFault : List ℕ → ℕ → LexError → Type 0
IsFault source at (errors.Byte i) = (i ≡ at) × (at < length source) × BeginNoPiece (drop at source)
IsFault source at (errors.Literal i) =
    (i ≡ at) × (n : ℕ) × Longest piece.Number n (drop at source)
    × IsRefused (take n (drop at source)) (drop n (drop at source))
IsFault source at errors.Memory = ⊥

-- the first fault of the source: tokens lead from its front to the fault
abbrev pub HasFault : List ℕ → LexError → Type 0
HasFault source fault =
    (ts : List Token) × (at : ℕ) × Lexed source 0 ts at × IsFault source at fault

-- ---- steps of the reading

-- what is read of a piece: nothing between tokens, a kind, or why it is refused
abbrev pub Reads : Piece → List ℕ → List ℕ → ℕ → Result (Option Kind) LexError → Type 0
Reads p text after at (Ok None) = IsBetween p
Reads p text after at (Ok (Some k)) = IsKind p text after k
Reads p text after at (Err e) = (p ≡ piece.Number) × IsRefused text after × (e ≡ errors.Literal at)

-- the token of a kind, if there is one
abbrev pub tokens_of : Option Kind → ℕ → ℕ → ℕ → List Token
tokens_of None start end line = []
tokens_of (Some k) start end line = record { kind = k; start = start; end = end; line = line } ∷ []

-- 1 for a line feed, else 0
abbrev pub feeds_of : ℕ → ℕ
feeds_of b = if b == 10 then 1 else 0
