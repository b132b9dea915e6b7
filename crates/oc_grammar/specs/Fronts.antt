-- What stands in front of a list of tokens, and what follows it.
use Rattle.std.specs.Prelude.{◌≡◌, ℕ, ℤ, Option, Some, None, ◌∷◌}
use Rattle.oc_tree.specs.Names.{Text}
use Rattle.oc_tree.specs.declared.tree.BinaryOp.{BinaryOp}
use Rattle.oc_tree.specs.declared.tree.BinaryOp.TheVariants as ops
use Rattle.oc_lex.specs.declared.token.Word.{Word}
use Rattle.oc_lex.specs.declared.token.Mark.{Mark}
use Rattle.oc_lex.specs.declared.token.Mark.TheVariants as marks
use Rattle.oc_grammar.specs.Lexemes.{Lexeme, Lexemes, named, numeral, keyword, sign}

-- the name `x` stands in front of these tokens, and the others behind it
pub data Named : Text → Lexemes → Lexemes → Type 0 where
  a_name : {line : ℕ} {x : Text} {rest : Lexemes} → Named x (named line x ∷ rest) rest

-- a number stands in front of these tokens, and the others behind it
pub data Numeral : ℤ → Lexemes → Lexemes → Type 0 where
  a_numeral : {line : ℕ} {v : ℤ} {rest : Lexemes} → Numeral v (numeral line v ∷ rest) rest

-- a word of the grammar stands in front of these tokens, and the others behind it
pub data Keyword : Word → Lexemes → Lexemes → Type 0 where
  a_keyword : {line : ℕ} {w : Word} {rest : Lexemes} → Keyword w (keyword line w ∷ rest) rest

-- a mark stands in front of these tokens, and the others behind it
pub data Sign : Mark → Lexemes → Lexemes → Type 0 where
  a_sign : {line : ℕ} {m : Mark} {rest : Lexemes} → Sign m (sign line m ∷ rest) rest

-- The operators between two operands, and their levels: the lower the tighter.
abbrev pub mark_operator : Mark → Option (BinaryOp × ℕ)
mark_operator marks.Star = Some (ops.Mul, 1)
mark_operator marks.Slash = Some (ops.Div, 1)
mark_operator marks.Percent = Some (ops.Rem, 1)
mark_operator marks.Plus = Some (ops.Add, 2)
mark_operator marks.Minus = Some (ops.Sub, 2)
mark_operator marks.Equal = Some (ops.Eq, 3)
mark_operator marks.NotEqual = Some (ops.Ne, 3)
mark_operator marks.Less = Some (ops.Lt, 3)
mark_operator marks.LessEqual = Some (ops.Le, 3)
mark_operator marks.Greater = Some (ops.Gt, 3)
mark_operator marks.GreaterEqual = Some (ops.Ge, 3)
mark_operator marks.And = Some (ops.And, 4)
mark_operator marks.Or = Some (ops.Or, 5)
mark_operator _ = None

-- the operator that a token is, with its level
abbrev pub infix_of : Lexeme → Option (BinaryOp × ℕ)
infix_of (sign line m) = mark_operator m
infix_of _ = None

-- an operator of this level stands in front of these tokens, and the others behind it
pub data Infix : BinaryOp → ℕ → Lexemes → Lexemes → Type 0 where
  an_operator : {token : Lexeme} {op : BinaryOp} {level : ℕ} {rest : Lexemes}
      → infix_of token ≡ Some (op, level) → Infix op level (token ∷ rest) rest
