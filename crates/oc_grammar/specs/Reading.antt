-- Reading from left to right, one token ahead, up to the first fault.
use Rattle.std.specs.Prelude.{ℕ, zero, suc, ℤ, Bool, true, false, List, [], ◌∷◌, length, Option, Some, None, Result, Ok, Err, ◌==◌, if◌then◌else◌}
use Rattle.oc_tree.specs.Names.{Text}
use Rattle.oc_tree.specs.declared.tree.BinaryOp.{BinaryOp}
use Rattle.oc_lex.specs.declared.token.Word.{Word}
use Rattle.oc_lex.specs.declared.token.Word.TheVariants as words
use Rattle.oc_lex.specs.declared.token.Mark.{Mark}
use Rattle.oc_lex.specs.declared.token.Mark.TheVariants as marks
use Rattle.oc_grammar.specs.Limits.{Depth}
use Rattle.oc_grammar.specs.Lexemes.{Lexeme, Lexemes, named, numeral, keyword, sign}
use Rattle.oc_grammar.specs.Fronts.{infix_of}

-- a fault, at the token with which so many tokens are left
pub data Fault : Type 0 where
  syntax_fault : (left : ℕ) → Fault
  depth_fault : (depth : Depth) → (left : ℕ) → Fault

-- what is read, and the tokens behind it
abbrev pub Read : Type 0 → Type 0
Read A = Result (A × Lexemes) Fault

infixl 10 ◌>>=◌
-- reading goes on behind what was read, or stops at the fault
abbrev pub ◌>>=◌ : {A B : Type 0} → Result A Fault → (A → Result B Fault) → Result B Fault
(Ok x) >>= f = f x
(Err e) >>= f = Err e

-- what is made of a value, or `none` where there is none
abbrev pub with_some : {A B : Type 0} → Option A → B → (A → B) → B
with_some None none some = none
with_some (Some x) none some = some x

-- a fault at the first of these tokens
abbrev pub refuse : {A : Type 0} → Lexemes → Result A Fault
refuse ts = Err (syntax_fault (length ts))

-- a fault at the token before these
abbrev pub refuse_last : {A : Type 0} → Lexemes → Result A Fault
refuse_last ts = Err (syntax_fault (suc (length ts)))

-- the token before these passes this depth
abbrev pub too_deep : {A : Type 0} → Depth → Lexemes → Result A Fault
too_deep depth ts = Err (depth_fault depth (suc (length ts)))

-- a number for each mark, which tells them apart
abbrev pub mark_number : Mark → ℕ
mark_number marks.OpenRound = 0
mark_number marks.CloseRound = 1
mark_number marks.OpenCurly = 2
mark_number marks.CloseCurly = 3
mark_number marks.OpenSquare = 4
mark_number marks.CloseSquare = 5
mark_number marks.Semicolon = 6
mark_number marks.Colon = 7
mark_number marks.Comma = 8
mark_number marks.Arrow = 9
mark_number marks.Assign = 10
mark_number marks.Equal = 11
mark_number marks.NotEqual = 12
mark_number marks.Less = 13
mark_number marks.LessEqual = 14
mark_number marks.Greater = 15
mark_number marks.GreaterEqual = 16
mark_number marks.Plus = 17
mark_number marks.Minus = 18
mark_number marks.Star = 19
mark_number marks.Slash = 20
mark_number marks.Percent = 21
mark_number marks.And = 22
mark_number marks.Or = 23
mark_number marks.Not = 24
mark_number marks.Ampersand = 25
mark_number marks.Range = 26

-- two marks are the same
abbrev pub same_mark : Mark → Mark → Bool
same_mark a b = mark_number a == mark_number b

-- a number for each word, which tells them apart
abbrev pub word_number : Word → ℕ
word_number words.Sensor = 0
word_number words.Port = 1
word_number words.Nonvolatile = 2
word_number words.Function = 3
word_number words.Let = 4
word_number words.Mutable = 5
word_number words.If = 6
word_number words.Else = 7
word_number words.For = 8
word_number words.In = 9
word_number words.While = 10
word_number words.Bound = 11
word_number words.Return = 12
word_number words.True = 13
word_number words.False = 14
word_number words.Emit = 15
word_number words.Sense = 16
word_number words.Fresh = 17
word_number words.Consistent = 18
word_number words.Int = 19
word_number words.Bool = 20
word_number words.Atomic = 21
word_number words.Underscore = 22

-- two words are the same
abbrev pub same_word : Word → Word → Bool
same_word a b = word_number a == word_number b

-- the token in front
unfoldable pub next_at : Lexemes → Read Lexeme
next_at [] = Err (syntax_fault 0)
next_at (t ∷ ts) = Ok (t, ts)

-- what is behind a mark, if it is in front
unfoldable pub strip_mark : Mark → Lexemes → Option Lexemes
strip_mark m (sign line k ∷ ts) = if same_mark k m then Some ts else None
strip_mark m _ = None

-- what is behind a word, if it is in front
unfoldable pub strip_word : Word → Lexemes → Option Lexemes
strip_word w (keyword line k ∷ ts) = if same_word k w then Some ts else None
strip_word w _ = None

-- what is behind a mark, which must be in front
unfoldable pub expect_mark : Mark → Lexemes → Result Lexemes Fault
expect_mark m ts = with_some (strip_mark m ts) (refuse ts) (λ us. Ok us)

-- what is behind a word, which must be in front
unfoldable pub expect_word : Word → Lexemes → Result Lexemes Fault
expect_word w ts = with_some (strip_word w ts) (refuse ts) (λ us. Ok us)

-- the name in front, which must be there
unfoldable pub name_at : Lexemes → Read Text
name_at (named line x ∷ ts) = Ok (x, ts)
name_at ts = refuse ts

-- the number in front, which must be there
unfoldable pub number_at : Lexemes → Read ℤ
number_at (numeral line v ∷ ts) = Ok (v, ts)
number_at ts = refuse ts

-- whether the word is in front, and what is behind it then
unfoldable pub take_word : Word → Lexemes → Bool × Lexemes
take_word w ts = with_some (strip_word w ts) (false, ts) (λ us. (true, us))

-- an operator, if it is of this level
abbrev pub at_level : ℕ → Option (BinaryOp × ℕ) → Option BinaryOp
at_level level None = None
at_level level (Some x) = if x.1 == level then Some x.0 else None

-- the operator that a token is, if it is one of this level
abbrev pub operator_of : ℕ → Lexeme → Option BinaryOp
operator_of level t = at_level level (infix_of t)

-- an operator, if there is one, with the tokens behind it
abbrev pub before : Lexemes → Option BinaryOp → Option (BinaryOp × Lexemes)
before ts None = None
before ts (Some op) = Some (op, ts)

-- an operator of this level in front, and what is behind it
unfoldable pub operator_front : ℕ → Lexemes → Option (BinaryOp × Lexemes)
operator_front level [] = None
operator_front level (t ∷ ts) = before ts (operator_of level t)

-- things with commas between them, behind the `(` and up to the `)`, at most so many
unfoldable pub listed_by : {A : Type 0} → (Lexemes → Read A) → ℕ → Lexemes → Read (List A)
listed_by part zero ts = refuse ts
listed_by part (suc n) ts =
    with_some (strip_mark marks.CloseRound ts)
    (part ts >>= λ x.
    with_some (strip_mark marks.Comma x.1)
    (expect_mark marks.CloseRound x.1 >>= λ us. Ok (x.0 ∷ [], us))
    (λ us. listed_by part n us >>= λ xs. Ok (x.0 ∷ xs.0, xs.1)))
    (λ us. Ok ([], us))
