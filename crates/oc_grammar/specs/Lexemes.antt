-- Tokens as the grammar sees them: what each says, and its line.
use Rattle.std.specs.Prelude.{ℕ, ℤ, Bool, true, false, not, ◌||◌, cond, List, [], ◌∷◌, map, slice_range}
use Rattle.oc_tree.specs.Names.{Text}
use Rattle.oc_lex.specs.declared.token.Kind.{Kind}
use Rattle.oc_lex.specs.declared.token.Kind.TheVariants as kinds
use Rattle.oc_lex.specs.declared.token.Word.{Word}
use Rattle.oc_lex.specs.declared.token.Word.TheVariants as words
use Rattle.oc_lex.specs.declared.token.Mark.{Mark}
use Rattle.oc_lex.specs.declared.token.Token.{Token}
use Rattle.oc_lex.specs.Stands.{IsName}
use Rattle.oc_tree.specs.Form.{IsNumeral}

-- a token as the grammar sees it: what it says, and its line
pub data Lexeme : Type 0 where
  -- a name
  named : (line : ℕ) → Text → Lexeme
  -- a number
  numeral : (line : ℕ) → ℤ → Lexeme
  -- a word of the grammar
  keyword : (line : ℕ) → Word → Lexeme
  -- a mark or an operator, as `;` or `+`
  sign : (line : ℕ) → Mark → Lexeme
  -- a word that stands in no form of the grammar
  reserved : (line : ℕ) → Lexeme

-- the tokens of a source, or those that are left of them
abbrev pub Lexemes : Type 0
Lexemes = List Lexeme

-- a word is `atomic`
abbrev pub is_atomic : Word → Bool
is_atomic words.Atomic = true
is_atomic _ = false

-- a word stands in the grammar: `atomic` in the larger one alone
abbrev pub says : Bool → Word → Bool
says atomic w = not (is_atomic w) || atomic

-- a token of this line, text and kind, in the smaller grammar or in the larger one with `atomic`
abbrev pub lexeme_by : Bool → ℕ → Text → Kind → Lexeme
lexeme_by atomic line text kinds.Name = named line text
lexeme_by atomic line text (kinds.Number v) = numeral line v
lexeme_by atomic line text (kinds.Word w) = cond (says atomic w) (keyword line w) (reserved line)
lexeme_by atomic line text (kinds.Mark m) = sign line m

-- a token of a source, as the grammar sees it
abbrev pub lexeme_of : Bool → List ℕ → Token → Lexeme
lexeme_of atomic source t = lexeme_by atomic t.line (slice_range source t.start t.end) t.kind

-- the tokens of a source, as the smaller grammar or the larger one with `atomic` sees them
abbrev pub lexemes_in : Bool → List ℕ → List Token → Lexemes
lexemes_in atomic source tokens = map (lexeme_of atomic source) tokens

-- the tokens of a source, as the grammar without `atomic` sees them
abbrev pub lexemes_of : List ℕ → List Token → Lexemes
lexemes_of source tokens = lexemes_in false source tokens

-- a token is a name of the language, or a number that one can say, or a word or mark
abbrev pub LexemeInForm : Lexeme → Type 0
LexemeInForm (named line x) = IsName x
LexemeInForm (numeral line z) = IsNumeral z
LexemeInForm _ = Unit {0}

-- names among these tokens are names of the language, and numbers such as a token can say
abbrev pub LexemesInForm : Lexemes → Type 0
LexemesInForm [] = Unit {0}
LexemesInForm (t ∷ ts) = LexemeInForm t × LexemesInForm ts

-- the line of a token
abbrev pub line_of : Lexeme → ℕ
line_of (named line x) = line
line_of (numeral line v) = line
line_of (keyword line w) = line
line_of (sign line m) = line
line_of (reserved line) = line

-- the line of the first of these tokens, or 1 where there is none
abbrev pub front_line : Lexemes → ℕ
front_line [] = 1
front_line (t ∷ ts) = line_of t

-- the line of the last of these tokens, or 1 where there is none
abbrev pub last_line : Lexemes → ℕ
last_line [] = 1
last_line (t ∷ []) = line_of t
last_line (t ∷ ts) = last_line ts
