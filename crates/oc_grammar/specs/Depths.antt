-- Where the tokens stop to begin a program, and where they pass a depth.
use Rattle.std.specs.Prelude.{◌≡◌, ℕ, [], ◌∷◌, ◌++◌, length, Some}
use Rattle.oc_tree.specs.Tree.{TProgram}
use Rattle.oc_tree.specs.declared.tree.BinaryOp.{BinaryOp}
use Rattle.oc_lex.specs.declared.token.Mark.TheVariants as marks
use Rattle.oc_grammar.specs.Limits.{Limits, the_depths, Depth, blocks_depth, brackets_depth, operators_depth, limit}
use Rattle.oc_grammar.specs.Lexemes.{Lexeme, Lexemes, sign}
use Rattle.oc_grammar.specs.Fronts.{infix_of}
use Rattle.oc_grammar.specs.Programs.{SpellsProgram}

-- tokens begin a program within these limits: it is spelled by them and perhaps some more
pub record BeginsWithin (limits : Limits) (tokens : Lexemes) : Type 0 where
  pub more : Lexemes
  pub program : TProgram
  pub spelled : SpellsProgram limits program (tokens ++ more)

-- tokens begin a program of any depth: it is spelled by them and perhaps some more
pub record BeginsProgram (tokens : Lexemes) : Type 0 where
  pub limits : Limits
  pub within : BeginsWithin limits tokens

-- a token can pass a depth first; the `if` of an `else if` opens a block too, but where it is one
-- too many, the block before its `else` was one too many already
pub data Opens : Depth → Lexeme → Type 0 where
  curly : {line : ℕ} → Opens blocks_depth (sign line marks.OpenCurly)
  round : {line : ℕ} → Opens brackets_depth (sign line marks.OpenRound)
  square : {line : ℕ} → Opens brackets_depth (sign line marks.OpenSquare)
  before_minus : {line : ℕ} → Opens brackets_depth (sign line marks.Minus)
  before_not : {line : ℕ} → Opens brackets_depth (sign line marks.Not)
  between : {token : Lexeme} {op : BinaryOp} {level : ℕ}
      → infix_of token ≡ Some (op, level) → Opens operators_depth token

-- Behind the tokens in `front`, this one passes the depth: up to and with it they begin programs,
-- but none that keeps to the depth, whatever the other two are.
pub record PassesDepth (depth : Depth) (front : Lexemes) (token : Lexeme) : Type 0 where
  pub opens : Opens depth token
  pub begins : BeginsProgram (front ++ token ∷ [])
  pub passed : (limits : Limits)
      → limit depth limits ≡ limit depth the_depths → BeginsWithin limits (front ++ token ∷ []) → ⊥

-- none of these tokens passes a depth
abbrev pub InDepth : Lexemes → Type 0
InDepth tokens =
    (depth : Depth) (front : Lexemes) (token : Lexeme) (behind : Lexemes)
    → tokens ≡ front ++ token ∷ behind → PassesDepth depth front token → ⊥

-- the token at this place is the first that passes a depth
pub record IsDepth (tokens : Lexemes) (at_token : ℕ) : Type 0 where
  pub front : Lexemes
  pub token : Lexeme
  pub behind : Lexemes
  pub split : tokens ≡ front ++ token ∷ behind
  pub place : at_token ≡ length front
  pub depth : Depth
  pub passes : PassesDepth depth front token
  pub first : InDepth front

-- no token before passes a depth, and up to and with this one the tokens begin no program, while
-- they do before it; or all begin one and spell none
pub data IsSyntax (tokens : Lexemes) (at_token : ℕ) : Type 0 where
  wrong : (front : Lexemes) (token : Lexeme) (behind : Lexemes)
      → tokens ≡ front ++ token ∷ behind → at_token ≡ length front → InDepth front → BeginsProgram front
      → (BeginsProgram (front ++ token ∷ []) → ⊥)
      → IsSyntax tokens at_token
  ended : at_token ≡ length tokens → InDepth tokens → BeginsProgram tokens
      → ((limits : Limits) (p : TProgram) → SpellsProgram limits p tokens → ⊥)
      → IsSyntax tokens at_token
