-- What a source is.
use Rattle.std.specs.Prelude.{ℕ, ◌+◌, ◌≡◌, Bool, false, List, Some, None, take}
use Rattle.oc_tree.specs.Tree.{TProgram}
use Rattle.oc_tree.specs.Broken.{broken}
use Rattle.oc_tree.specs.declared.broken.Broken.{Broken}
use Rattle.oc_lex.specs.Tokens.{AreTokens, HasFault}
use Rattle.oc_io.specs.Counts.{line_feeds}
use Rattle.oc_lex.specs.declared.token.Token.{Token}
use Rattle.oc_lex.specs.declared.lexer.LexError.{LexError}
use Rattle.oc_lex.specs.declared.lexer.LexError.TheVariants as fault
use Rattle.oc_grammar.specs.Limits.{the_depths}
use Rattle.oc_grammar.specs.Lexemes.{lexemes_in}
use Rattle.oc_grammar.specs.Programs.{SpellsProgram}
use Rattle.oc_top.specs.Faults.{HasFaultAt, token_line}

-- how a source reads
pub data Reading : Type 0 where
  -- no program: the first fault is in this line
  faulty : (line : ℕ) → Reading
  -- a program that breaks a rule: the first one that it breaks
  breaks : Broken → Reading
  -- the program that it spells, which breaks no rule
  program : TProgram → Reading

-- the byte at which a fault of the tokens lies
abbrev pub place_of : LexError → ℕ
place_of (fault.Byte at) = at
place_of (fault.Literal at) = at
place_of fault.Memory = 0

-- the line of a byte: 1 plus the number of line feeds before it
abbrev pub line_at : List ℕ → ℕ → ℕ
line_at source at = 1 + line_feeds (take at source)

-- ---- in the grammar with `atomic`, or in the one without it

-- the source isn't tokens, or they spell no program within the depths; the fault is in this line
pub data IsFaultyIn (atomic : Bool) (source : List ℕ) (line : ℕ) : Type 0 where
  no_tokens : (f : LexError)
      → HasFault source f → line ≡ line_at source (place_of f) → IsFaultyIn atomic source line
  no_tree : (tokens : List Token)
      → AreTokens source tokens → (token : ℕ) → HasFaultAt (lexemes_in atomic source tokens) token
      → line ≡ token_line (lexemes_in atomic source tokens) token → IsFaultyIn atomic source line

-- the tokens of the source spell this program, within the depths
pub record SpellsIn (atomic : Bool) (source : List ℕ) (p : TProgram) : Type 0 where
  pub tokens : List Token
  pub are_tokens : AreTokens source tokens
  pub spelled : SpellsProgram the_depths p (lexemes_in atomic source tokens)

-- this is how a source reads
abbrev pub ReadsIn : (atomic : Bool) → List ℕ → Reading → Type 0
ReadsIn atomic source (faulty line) = IsFaultyIn atomic source line
ReadsIn atomic source (breaks b) = (p : TProgram) × SpellsIn atomic source p × (broken p ≡ Some b)
ReadsIn atomic source (program p) = SpellsIn atomic source p × (broken p ≡ None)

-- ---- in the one without it, which all commands but `check` read

-- the tokens of the source spell this program within the depths, in the grammar without `atomic`
abbrev pub Spells : List ℕ → TProgram → Type 0
Spells source p = SpellsIn false source p

-- this is how a source reads in the grammar without `atomic`, which all commands but `check` read
abbrev pub ReadsAs : List ℕ → Reading → Type 0
ReadsAs source reading = ReadsIn false source reading
