-- Tokens worked out by hand, on both sides of a depth.
use Rattle.std.specs.Prelude.{ℕ, ◌∷◌, codes, replicate}
use Rattle.oc_lex.specs.declared.token.Word.TheVariants as words
use Rattle.oc_lex.specs.declared.token.Mark.TheVariants as marks
use Rattle.oc_grammar.specs.Lexemes.{Lexemes, named, keyword, sign}
use Rattle.oc_grammar.specs.Depths.{IsDepth, IsSyntax}

-- `fn main() { let x = `, and then so many `(`
abbrev pub open_brackets : ℕ → Lexemes
open_brackets n =
    keyword 1 words.Function ∷ named 1 (codes "main") ∷ sign 1 marks.OpenRound
    ∷ sign 1 marks.CloseRound ∷ sign 1 marks.OpenCurly ∷ keyword 1 words.Let ∷ named 1 (codes "x")
    ∷ sign 1 marks.Assign ∷ replicate n (sign 1 marks.OpenRound)

-- 33 brackets may be in one another, and tokens are missing behind them; the 34th passes the depth
pub record WorkedDepths : Type 0 where
  pub within : IsSyntax (open_brackets 33) 41
  pub deeper : IsDepth (open_brackets 34) 41
