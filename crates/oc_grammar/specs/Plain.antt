-- The language without `atomic` beside the larger one.
use Rattle.std.specs.Prelude.{◌≡◌, ℕ, List, [], ◌∷◌, ◌++◌, cond}
use Rattle.oc_tree.specs.Tree.{TProgram}
use Rattle.oc_lex.specs.declared.token.Token.{Token}
use Rattle.oc_lex.specs.declared.token.Word.TheVariants as words
use Rattle.oc_grammar.specs.Limits.{Limits}
use Rattle.oc_grammar.specs.Lexemes.{Lexeme, Lexemes, keyword, is_atomic, lexemes_of}
use Rattle.oc_grammar.specs.Programs.{SpellsProgram}
use Rattle.oc_grammar.specs.Depths.{BeginsWithin}

-- the tokens that stand for one without `atomic`: `if true` in its place
abbrev pub plain : Lexeme → Lexemes
plain (keyword line w) =
    cond (is_atomic w) (keyword line words.If ∷ keyword line words.True ∷ []) (keyword line w ∷ [])
plain t = t ∷ []

-- these tokens with `if true` in the place of each `atomic`
abbrev pub without_atomic : Lexemes → Lexemes
without_atomic [] = []
without_atomic (t ∷ ts) = plain t ++ without_atomic ts

-- none of these is `atomic`
abbrev pub IsPlain : Lexemes → Type 0
IsPlain tokens = without_atomic tokens ≡ tokens

-- within these limits some program is spelled by the tokens and perhaps some more, of which none is
-- `atomic`
pub record BeginsPlainly (limits : Limits) (tokens : Lexemes) : Type 0 where
  pub more : Lexemes
  pub program : TProgram
  pub plainly : IsPlain more
  pub spelled : SpellsProgram limits program (tokens ++ more)

-- the tokens of a source in which `atomic` is no word of the grammar
abbrev pub SourcesArePlain : Type 0
SourcesArePlain = (source : List ℕ) (tokens : List Token) → IsPlain (lexemes_of source tokens)

-- `atomic` stands where `if true` may, with the same tree
abbrev pub AtomicIsIfTrue : Type 0
AtomicIsIfTrue =
    (limits : Limits) (p : TProgram) (tokens : Lexemes) → SpellsProgram limits p tokens
    → SpellsProgram limits p (without_atomic tokens)

-- what begins a program begins one that goes on without `atomic`
abbrev pub BeginsAlike : Type 0
BeginsAlike =
    (limits : Limits) (tokens : Lexemes) → IsPlain tokens → BeginsWithin limits tokens
    → BeginsPlainly limits tokens
