-- Sources that are no program.
use Rattle.std.proofs.Common.{Bool, true, false, cond, ℕ, zero, suc, ◌-◌, ◌≡◌, ◌⊎◌, ◌∙◌, sym, ap, refl, List, [], ◌∷◌, length, min, drop, Some, inl, inr}
use Rattle.std.specs.Prelude.{slice_get}
use Rattle.std.proofs.lemmas.List.{length-map}
use Rattle.oc_tree.specs.Names.{Text}
use Rattle.oc_lex.specs.Tokens.{AreTokens, HasFault}
use Rattle.oc_lex.specs.declared.lexer.LexError.{LexError}
use Rattle.oc_lex.specs.declared.lexer.LexError.TheVariants as lex_error
use Rattle.oc_lex.specs.declared.token.Kind.{Kind}
use Rattle.oc_lex.specs.declared.token.Kind.TheVariants as kinds
use Rattle.oc_lex.specs.declared.token.Token.{Token}
use Rattle.oc_lex.specs.declared.token.Word.{Word}
use Rattle.oc_grammar.specs.Lexemes.{keyword, reserved, says, lexeme_by, lexemes_in, line_of, front_line}
use Rattle.oc_parse.specs.declared.program.ParseError.{ParseError}
use Rattle.oc_parse.specs.declared.program.ParseError.TheVariants as parse_error
use Rattle.oc_parse.specs.Steps.{IsFault}
use Rattle.oc_top.specs.Faults.{token_line}
use Rattle.oc_top.specs.Sources.{no_tokens, no_tree}
use Rattle.oc_top.specs.Steps.{IsNotRead, for_tokens, for_tree}

-- ---- lines of tokens

word_line : (line : ℕ) (w : Word) (b : Bool) → line_of (cond b (keyword line w) (reserved line)) ≡ line
word_line line w true = refl
word_line line w false = refl

line_by : (atomic : Bool) (line : ℕ) (text : Text) (k : Kind) → line_of (lexeme_by atomic line text k) ≡ line
line_by atomic line text kinds.Name = refl
line_by atomic line text (kinds.Number v) = refl
line_by atomic line text (kinds.Word w) = word_line line w (says atomic w)
line_by atomic line text (kinds.Mark m) = refl

module _ (atomic : Bool) (source : List ℕ) where
  line_there : (ts : List Token) (n : ℕ) (t : Token) → slice_get ts n ≡ Some t → front_line (drop n (lexemes_in atomic source ts)) ≡ t.line
  line_there [] zero t h = cc
  line_there [] (suc n) t h = cc
  line_there (u ∷ ts) zero t h = let e : u ≡ t = cc in line_by atomic u.line _ u.kind ∙ ap (λ x. x.line) e
  line_there (u ∷ ts) (suc n) t h = line_there ts n t h

  same_count : (ts : List Token) (token : ℕ) → token_line (lexemes_in atomic source ts) token ≡ front_line (drop (min token (length ts - 1)) (lexemes_in atomic source ts))
  same_count ts token = ap (λ (n : ℕ). front_line (drop (min token (n - 1)) (lexemes_in atomic source ts))) (length-map ts _)

  pub token_line_there : (ts : List Token) (token : ℕ) (t : Token) → slice_get ts (min token (length ts - 1)) ≡ Some t → t.line ≡ token_line (lexemes_in atomic source ts) token
  token_line_there ts token t h = sym (same_count ts token ∙ line_there ts _ t h)

-- ---- why a source is no program

pub without_tokens : (atomic : Bool) (source : List ℕ) (e : LexError) → (e ≡ lex_error.Memory) ⊎ HasFault source e → IsNotRead atomic source (for_tokens source e)
without_tokens atomic source (lex_error.Byte at) (inl m) = cc m
without_tokens atomic source (lex_error.Byte at) (inr f) = no_tokens (lex_error.Byte at) f refl
without_tokens atomic source (lex_error.Literal at) (inl m) = cc m
without_tokens atomic source (lex_error.Literal at) (inr f) = no_tokens (lex_error.Literal at) f refl
without_tokens atomic source lex_error.Memory w = tt

pub without_tree : (atomic : Bool) (source : List ℕ) (ts : List Token) → AreTokens source ts → (e : ParseError) → IsFault e (lexemes_in atomic source ts)
    → IsNotRead atomic source (for_tree (lexemes_in atomic source ts) e)
without_tree atomic source ts a (parse_error.Syntax token) f = no_tree ts a token (inl f) refl
without_tree atomic source ts a (parse_error.Depth token) f = no_tree ts a token (inr f) refl
without_tree atomic source ts a parse_error.Memory f = tt
