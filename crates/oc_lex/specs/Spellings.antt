-- How words and marks are spelled.
use Rattle.std.specs.Prelude.{◌≢◌, ℕ, List, [], ◌∷◌, codes, ◌==◌, if◌then◌else◌}
use Rattle.oc_lex.specs.declared.token.Word.{Word}
use Rattle.oc_lex.specs.declared.token.Word.TheVariants as words
use Rattle.oc_lex.specs.declared.token.Mark.{Mark}
use Rattle.oc_lex.specs.declared.token.Mark.TheVariants as marks

-- how a word of the language is spelled
abbrev pub word_spelling : Word → List ℕ
word_spelling words.Sensor = codes "sensor"
word_spelling words.Port = codes "port"
word_spelling words.Nonvolatile = codes "nv"
word_spelling words.Function = codes "fn"
word_spelling words.Let = codes "let"
word_spelling words.Mutable = codes "mut"
word_spelling words.If = codes "if"
word_spelling words.Else = codes "else"
word_spelling words.For = codes "for"
word_spelling words.In = codes "in"
word_spelling words.While = codes "while"
word_spelling words.Bound = codes "bound"
word_spelling words.Return = codes "return"
word_spelling words.True = codes "true"
word_spelling words.False = codes "false"
word_spelling words.Emit = codes "emit"
word_spelling words.Sense = codes "sense"
word_spelling words.Fresh = codes "Fresh"
word_spelling words.Consistent = codes "Consistent"
word_spelling words.Int = codes "i32"
word_spelling words.Bool = codes "bool"
word_spelling words.Atomic = codes "atomic"
word_spelling words.Underscore = codes "_"

-- the words that begin as a text does
unfoldable pub words_like : List ℕ → List Word
words_like [] = []
words_like (b ∷ bs) =
    if b == 115 then words.Sensor ∷ words.Sense ∷ []
    else (if b == 112 then words.Port ∷ []
    else (if b == 110 then words.Nonvolatile ∷ []
    else (if b == 102 then words.Function ∷ words.For ∷ words.False ∷ []
    else (if b == 108 then words.Let ∷ []
    else (if b == 109 then words.Mutable ∷ []
    else (if b == 105 then words.If ∷ words.In ∷ words.Int ∷ []
    else (if b == 101 then words.Else ∷ words.Emit ∷ []
    else (if b == 119 then words.While ∷ []
    else (if b == 98 then words.Bound ∷ words.Bool ∷ []
    else (if b == 114 then words.Return ∷ []
    else (if b == 116 then words.True ∷ []
    else (if b == 70 then words.Fresh ∷ []
    else (if b == 67 then words.Consistent ∷ []
    else (if b == 97 then words.Atomic ∷ []
    else (if b == 95 then words.Underscore ∷ [] else [])))))))))))))))

-- how a mark or an operator is spelled
abbrev pub mark_spelling : Mark → List ℕ
mark_spelling marks.OpenRound = codes "("
mark_spelling marks.CloseRound = codes ")"
mark_spelling marks.OpenCurly = codes "{"
mark_spelling marks.CloseCurly = codes "}"
mark_spelling marks.OpenSquare = codes "["
mark_spelling marks.CloseSquare = codes "]"
mark_spelling marks.Semicolon = codes ";"
mark_spelling marks.Colon = codes ":"
mark_spelling marks.Comma = codes ","
mark_spelling marks.Arrow = codes "->"
mark_spelling marks.Assign = codes "="
mark_spelling marks.Equal = codes "=="
mark_spelling marks.NotEqual = codes "!="
mark_spelling marks.Less = codes "<"
mark_spelling marks.LessEqual = codes "<="
mark_spelling marks.Greater = codes ">"
mark_spelling marks.GreaterEqual = codes ">="
mark_spelling marks.Plus = codes "+"
mark_spelling marks.Minus = codes "-"
mark_spelling marks.Star = codes "*"
mark_spelling marks.Slash = codes "/"
mark_spelling marks.Percent = codes "%"
mark_spelling marks.And = codes "&&"
mark_spelling marks.Or = codes "||"
mark_spelling marks.Not = codes "!"
mark_spelling marks.Ampersand = codes "&"
mark_spelling marks.Range = codes ".."

-- no word of the language is spelled so
abbrev pub SpellsNoWord : List ℕ → Type 0
SpellsNoWord text = (w : Word) → word_spelling w ≢ text

-- no mark is spelled so
abbrev pub SpellsNoMark : List ℕ → Type 0
SpellsNoMark text = (m : Mark) → mark_spelling m ≢ text
