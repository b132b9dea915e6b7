-- What the code reads, against the reading.
use Rattle.std.specs.Prelude.{◌≡◌, ℕ, ◌+◌, length, Result, Ok, Err, ◌<◌, ◌^◌}
use Rattle.oc_tree.specs.Tree.{TExpr, TStmt}
use Rattle.oc_grammar.specs.Limits.{operators_depth, brackets_depth, blocks_depth}
use Rattle.oc_grammar.specs.Lexemes.{Lexemes, says, lexemes_in}
use Rattle.oc_grammar.specs.Reading.{Fault, syntax_fault, depth_fault, Read}
use Rattle.oc_grammar.specs.ReadingExpressions.{ReadExpr}
use Rattle.std.specs.Prelude.{Bool, false, ◌&&◌}
use Rattle.oc_lex.specs.declared.token.Kind.{Kind}
use Rattle.oc_lex.specs.declared.token.Kind.TheVariants as kinds
use Rattle.oc_lex.specs.declared.token.Mark.{Mark}
use Rattle.std.specs.Prelude.{Option, None, List, [], ◌∷◌, ◌++◌}
use Rattle.oc_lex.specs.declared.token.Word.{Word}
use Rattle.oc_tree.specs.declared.tree.BinaryOp.{BinaryOp}
use Rattle.oc_grammar.specs.Fronts.{infix_of, mark_operator}
use Rattle.oc_grammar.specs.Reading.{same_mark, same_word, at_level}
use Rattle.oc_parse.specs.declared.stop.Stop.{Stop}
use Rattle.oc_parse.specs.declared.stop.Stop.TheVariants as stops
use Rattle.oc_parse.specs.declared.reader.Reader.{Reader}
use Rattle.oc_parse.specs.declared.statement.Parser.{Parser}
use Rattle.oc_grammar.specs.ReadingStatements.{ReadNumbered}
use Rattle.oc_grammar.specs.Depths.{IsDepth, IsSyntax}
use Rattle.oc_tree.specs.Tree.{TProgram}
use Rattle.oc_tree.specs.View.{program_view, stmt_view}
use Rattle.oc_tree.specs.declared.tree.Stmt.{Stmt}
use Rattle.oc_tree.specs.declared.tree.Program.{Program}
use Rattle.oc_parse.specs.declared.program.ParseError.{ParseError}
use Rattle.oc_parse.specs.declared.program.ParseError.TheVariants as errors
use Rattle.oc_grammar.specs.ReadingStatements as reading

-- the tokens that are left
abbrev pub left : Reader → Lexemes
left r = lexemes_in r.atomic r.source.now r.rest.now

-- reading stops with the same fault, or for want of memory
abbrev pub Stopped : {Y : Type 0} → Stop → Result Y Fault → Type 0
Stopped stops.Memory read = Unit {0}
Stopped (stops.Syntax n) read = read ≡ Err (syntax_fault n)
Stopped (stops.Blocks n) read = read ≡ Err (depth_fault blocks_depth n)
Stopped (stops.Brackets n) read = read ≡ Err (depth_fault brackets_depth n)
Stopped (stops.Operators n) read = read ≡ Err (depth_fault operators_depth n)

-- the code reads what the reading reads, and leaves the same tokens
abbrev pub Reads : {X Y : Type 0} → (X → Y) → Result X Stop → Lexemes → Read Y → Type 0
Reads view (Ok x) rest read = read ≡ Ok (view x, rest)
Reads view (Err e) rest read = Stopped e read

-- the code reads over the same tokens as the reading
abbrev pub ReadsOver : {X : Type 0} → Result X Stop → Lexemes → Result Lexemes Fault → Type 0
ReadsOver (Ok x) rest read = read ≡ Ok rest
ReadsOver (Err e) rest read = Stopped e read

-- the code reads the expression that the reading reads, with as many operators and tokens left
abbrev pub ReadsExpr : {X : Type 0} → (X → TExpr) → Result X Stop → ℕ → Lexemes → ReadExpr → Type 0
ReadsExpr view (Ok x) n rest read = read ≡ Ok (view x, n, rest)
ReadsExpr view (Err e) n rest read = Stopped e read

-- the kind of a token is this mark
abbrev pub mark_is : Mark → Kind → Bool
mark_is m (kinds.Mark k) = same_mark k m
mark_is m _ = false

-- the kind of a token is this word, which the grammar has
abbrev pub word_is : Bool → Word → Kind → Bool
word_is atomic w (kinds.Word k) = says atomic k && same_word k w
word_is atomic w _ = false

-- the binary operator that a token of this kind is, with its level
abbrev pub kind_infix : Kind → Option (BinaryOp × ℕ)
kind_infix (kinds.Mark m) = mark_operator m
kind_infix _ = None

-- the operator of this level that a token of this kind is
abbrev pub kind_operator : ℕ → Kind → Option BinaryOp
kind_operator level kind = at_level level (kind_infix kind)

-- the binary operator in front, with its level
unfoldable pub infix_front : Lexemes → Option (BinaryOp × ℕ)
infix_front [] = None
infix_front (t ∷ ts) = infix_of t

-- a reading, from where the parser is
abbrev pub from : {A : Type 0} → reading.Reader A → Parser → ReadNumbered A
from read p = read p.statements p.blocks (left p.reader)

-- the code reads what the reading reads, up to where the parser is
abbrev pub ReadsTo : {X Y : Type 0} → (X → Y) → Result X Stop → Parser → ReadNumbered Y → Type 0
ReadsTo view (Ok x) p read = read ≡ Ok (view x, p.statements, p.blocks, left p.reader)
ReadsTo view (Err e) p read = Stopped e read

-- a list has one statement more behind those before, which the reading reads up to where the parser
-- is
pub record Added (before after : List Stmt) (p : Parser) (read : ReadNumbered TStmt) : Type 0 where
  pub one : Stmt
  pub adds : after ≡ before ++ one ∷ []
  pub reads : read ≡ Ok (stmt_view one, p.statements, p.blocks, left p.reader)

-- the code adds the statement that the reading reads
abbrev pub Adds : {X : Type 0}
    → List Stmt → List Stmt → Result X Stop → Parser → ReadNumbered TStmt → Type 0
Adds before after (Ok x) p read = Added before after p read
Adds before after (Err e) p read = Stopped e read

-- the numbers of the statements and blocks that may still come are below 2^32
abbrev pub Fits : Parser → Type 0
Fits p =
    (p.statements + length p.reader.rest.now < 2 ^ 32)
    × (p.blocks + length p.reader.rest.now < 2 ^ 32)

-- the code reads the program that the reading reads, or stops with its fault or for want of memory
abbrev pub Whole : Result Program Stop → Result TProgram Fault → Type 0
Whole (Ok p) read = read ≡ Ok (program_view p)
Whole (Err e) read = Stopped e read

-- the tokens have this fault, where an error names one: the first one wrong, or the first that
-- passes a depth
abbrev pub IsFault : ParseError → Lexemes → Type 0
IsFault errors.Memory tokens = Unit {0}
IsFault (errors.Syntax token) tokens = IsSyntax tokens token
IsFault (errors.Depth token) tokens = IsDepth tokens token

-- where there is an answer no fault is told, and else the tokens have the one that is
abbrev pub Faults : {X : Type 0} → Result X ParseError → Lexemes → Type 0
Faults (Ok x) tokens = Unit {0}
Faults (Err e) tokens = IsFault e tokens
