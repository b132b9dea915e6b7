-- Reading statements.
use Rattle.std.specs.Prelude.{ℕ, zero, suc, ℤ, unsigned_abs, Bool, true, List, [], ◌∷◌, length, Option, Some, None, Result, Ok, Err}
use Rattle.oc_tree.specs.Names.{Text}
use Rattle.oc_tree.specs.Tree.{truth, call, TRight, TKind, let_to, let_array, assign, assign_index, assign_deref, if_else, for_in, while_do, call_only, sense_only, emit, fresh}
use Rattle.oc_tree.specs.Tree.{consistent, return, TElse, no_else, else_do, TStmt, stmt, TBlock, block, no_stmts, more}
use Rattle.oc_tree.specs.View.{args_of, stmts_of}
use Rattle.oc_tree.specs.declared.tree.ValueKind.{ValueKind}
use Rattle.oc_tree.specs.declared.tree.ValueKind.TheVariants as types
use Rattle.oc_lex.specs.declared.token.Word.TheVariants as words
use Rattle.oc_lex.specs.declared.token.Mark.TheVariants as marks
use Rattle.oc_grammar.specs.Limits.{Limits, blocks_depth}
use Rattle.oc_grammar.specs.Lexemes.{Lexeme, Lexemes, named, keyword, sign, line_of}
use Rattle.oc_grammar.specs.Reading.{Fault, depth_fault, Read, ◌>>=◌, with_some, refuse, refuse_last, too_deep, next_at, strip_mark, strip_word, expect_mark, expect_word, name_at}
use Rattle.oc_grammar.specs.Reading.{number_at, take_word}
use Rattle.oc_grammar.specs.ReadingExpressions.{args_at, whole_at}
use Rattle.oc_grammar.specs.Statements.{opposite, right_of}

-- ---- types and constants

-- the number of an array's words, behind the `[` and up to the `]`
unfoldable pub array_at : Lexemes → Read ℕ
array_at ts = do
  us ← expect_word words.Int ts
  us ← expect_mark marks.Semicolon us
  n ← number_at us
  us ← expect_mark marks.CloseSquare n.1
  Ok (unsigned_abs n.0, us)

-- a type that begins with this token
abbrev pub type_from : Lexeme → Lexemes → Read ValueKind
type_from (keyword line words.Int) ts = Ok (types.Int, ts)
type_from (keyword line words.Bool) ts = Ok (types.Bool, ts)
type_from (sign line marks.OpenSquare) ts = array_at ts >>= λ n. Ok (types.Array n.0, n.1)
type_from _ ts = refuse_last ts

-- a type
unfoldable pub type_at : Lexemes → Read ValueKind
type_at ts = next_at ts >>= λ x. type_from x.0 x.1

-- a constant: a number, perhaps after a `-`
unfoldable pub const_at : Lexemes → Read ℤ
const_at ts =
    with_some (strip_mark marks.Minus ts) (number_at ts)
    (λ us. number_at us >>= λ n. Ok (opposite n.0, n.1))

-- ---- statements without blocks

-- a right side, up to and with the `;`
unfoldable pub right_at : Limits → Lexemes → Read TRight
right_at limits ts = do
  e ← whole_at limits ts
  us ← expect_mark marks.Semicolon e.1
  Ok (right_of e.0, us)

-- the type of a variable, if there is a `:`
unfoldable pub note_at : Lexemes → Read (Option ValueKind)
note_at ts =
    with_some (strip_mark marks.Colon ts) (Ok (None, ts))
    (λ us. type_at us >>= λ k. Ok (Some k.0, k.1))

-- `let a = [c; n];`, behind the `[`
unfoldable pub fill_at : Bool → Text → Option ValueKind → Lexemes → Read TKind
fill_at m x k ts = do
  i ← const_at ts
  us ← expect_mark marks.Semicolon i.1
  n ← number_at us
  us ← expect_mark marks.CloseSquare n.1
  us ← expect_mark marks.Semicolon us
  Ok (let_array m x k i.0 (unsigned_abs n.0), us)

-- `x = right;`, behind the `=`
unfoldable pub assign_at : Limits → Text → Lexemes → Read TKind
assign_at limits x ts = do
  r ← right_at limits ts
  Ok (assign x r.0, r.1)

-- `a[e] = right;`, behind the `[`
unfoldable pub element_to_at : Limits → Text → Lexemes → Read TKind
element_to_at limits x ts = do
  j ← whole_at limits ts
  us ← expect_mark marks.CloseSquare j.1
  us ← expect_mark marks.Assign us
  r ← right_at limits us
  Ok (assign_index x j.0 r.0, r.1)

-- `*x = right;`, behind the `*`
unfoldable pub target_at : Limits → Lexemes → Read TKind
target_at limits ts = do
  x ← name_at ts
  us ← expect_mark marks.Assign x.1
  r ← right_at limits us
  Ok (assign_deref x.0 r.0, r.1)

-- `f(..);`, behind the `(`
unfoldable pub call_at : Limits → Text → Lexemes → Read TKind
call_at limits f ts = do
  q ← args_at limits limits.brackets ts
  us ← expect_mark marks.Semicolon q.1
  Ok (call_only (call f (args_of q.0)), us)

-- `sense(s);`, behind the word
unfoldable pub sense_at : Lexemes → Read TKind
sense_at ts = do
  us ← expect_mark marks.OpenRound ts
  s ← name_at us
  us ← expect_mark marks.CloseRound s.1
  us ← expect_mark marks.Semicolon us
  Ok (sense_only s.0, us)

-- `emit(p, e);`, behind the word
unfoldable pub emit_at : Limits → Lexemes → Read TKind
emit_at limits ts = do
  us ← expect_mark marks.OpenRound ts
  p ← name_at us
  us ← expect_mark marks.Comma p.1
  v ← whole_at limits us
  us ← expect_mark marks.CloseRound v.1
  us ← expect_mark marks.Semicolon us
  Ok (emit p.0 v.0, us)

-- `Fresh(x);`, behind the word
unfoldable pub fresh_at : Lexemes → Read TKind
fresh_at ts = do
  us ← expect_mark marks.OpenRound ts
  x ← name_at us
  us ← expect_mark marks.CloseRound x.1
  us ← expect_mark marks.Semicolon us
  Ok (fresh x.0, us)

-- `Consistent(x, n);`, behind the word
unfoldable pub consistent_at : Lexemes → Read TKind
consistent_at ts = do
  us ← expect_mark marks.OpenRound ts
  x ← name_at us
  us ← expect_mark marks.Comma x.1
  n ← number_at us
  us ← expect_mark marks.CloseRound n.1
  us ← expect_mark marks.Semicolon us
  Ok (consistent x.0 n.0, us)

-- `return e;`, behind the word
unfoldable pub return_at : Limits → Lexemes → Read TKind
return_at limits ts = do
  v ← whole_at limits ts
  us ← expect_mark marks.Semicolon v.1
  Ok (return v.0, us)

-- a `let`, behind its `=`
unfoldable pub bind_at : Limits → Bool → Text → Option ValueKind → Lexemes → Read TKind
bind_at limits m x k ts =
    with_some (strip_mark marks.OpenSquare ts)
    (right_at limits ts >>= λ r. Ok (let_to m x k r.0, r.1)) (fill_at m x k)

-- a `let`, behind the `mut` that may stand there
unfoldable pub let_from : Limits → Bool × Lexemes → Read TKind
let_from limits m = do
  x ← name_at m.1
  k ← note_at x.1
  us ← expect_mark marks.Assign k.1
  bind_at limits m.0 x.0 k.0 us

-- a `let`, behind the word
unfoldable pub let_at : Limits → Lexemes → Read TKind
let_at limits ts = let_from limits (take_word words.Mutable ts)

-- a call or an assignment, behind the name with which it begins
unfoldable pub set_at : Limits → Text → Lexemes → Read TKind
set_at limits x ts =
    with_some (strip_mark marks.OpenRound ts)
    (with_some (strip_mark marks.OpenSquare ts)
    (expect_mark marks.Assign ts >>= assign_at limits x)
    (element_to_at limits x))
    (call_at limits x)

-- a statement without blocks that begins with this token
abbrev pub simple_from : Limits → Lexeme → Lexemes → Read TKind
simple_from limits (keyword line words.Let) ts = let_at limits ts
simple_from limits (named line x) ts = set_at limits x ts
simple_from limits (sign line marks.Star) ts = target_at limits ts
simple_from limits (keyword line words.Sense) ts = sense_at ts
simple_from limits (keyword line words.Emit) ts = emit_at limits ts
simple_from limits (keyword line words.Fresh) ts = fresh_at ts
simple_from limits (keyword line words.Consistent) ts = consistent_at ts
simple_from limits (keyword line words.Return) ts = return_at limits ts
simple_from limits _ ts = refuse_last ts

-- ---- statements and blocks

-- what is read, the numbers of the next statement and block, and the tokens behind
abbrev pub ReadNumbered : Type 0 → Type 0
ReadNumbered A = Result (A × ℕ × ℕ × Lexemes) Fault

-- a reading, by the numbers of the next statement and block, of the tokens that are left
abbrev pub Reader : Type 0 → Type 0
Reader A = ℕ → ℕ → Lexemes → ReadNumbered A

-- an `if`, behind the word, where `body` reads a block and `other` an `else`
unfoldable pub if_by : Limits → Reader TBlock → Reader TElse → Reader TKind
if_by limits body other n b ts = do
  c ← whole_at limits ts
  t ← body n b c.1
  o ← other t.1 t.2 t.3
  Ok (if_else c.0 t.0 o.0, o.1, o.2, o.3)

-- a `for`, behind the word, where `body` reads a block
unfoldable pub for_by : Reader TBlock → Reader TKind
for_by body n b ts = do
  x ← name_at ts
  us ← expect_word words.In x.1
  i ← const_at us
  us ← expect_mark marks.Range i.1
  j ← const_at us
  t ← body n b j.1
  Ok (for_in x.0 i.0 j.0 t.0, t.1, t.2, t.3)

-- a `while`, behind the word, where `body` reads a block
unfoldable pub while_by : Limits → Reader TBlock → Reader TKind
while_by limits body n b ts = do
  c ← whole_at limits ts
  us ← expect_word words.Bound c.1
  z ← number_at us
  t ← body n b z.1
  Ok (while_do c.0 (unsigned_abs z.0) t.0, t.1, t.2, t.3)

-- an `atomic` block, behind the word, with the tree of `if true`
unfoldable pub atomic_by : Reader TBlock → Reader TKind
atomic_by body n b ts = do
  t ← body n b ts
  Ok (if_else (truth true) t.0 no_else, t.1, t.2, t.3)

-- a statement without blocks, which leaves the numbers as they are
abbrev pub simple_by : ℕ → ℕ → Read TKind → ReadNumbered TKind
simple_by n b read = read >>= λ k. Ok (k.0, n, b, k.1)

-- a statement that begins with this token, without its number
abbrev pub kind_by : Limits → Reader TBlock → Reader TElse → Lexeme → Reader TKind
kind_by limits body other (keyword line words.If) n b ts = if_by limits body other n b ts
kind_by limits body other (keyword line words.For) n b ts = for_by body n b ts
kind_by limits body other (keyword line words.While) n b ts = while_by limits body n b ts
kind_by limits body other (keyword line words.Atomic) n b ts = atomic_by body n b ts
kind_by limits body other t n b ts = simple_by n b (simple_from limits t ts)

-- a statement with its number and line
abbrev pub stmt_by : Limits → Reader TBlock → Reader TElse → Reader TStmt
stmt_by limits body other n b ts = do
  x ← next_at ts
  k ← kind_by limits body other x.0 (suc n) b x.1
  Ok (stmt n (line_of x.0) k.0, k.1, k.2, k.3)

-- the statements of a block, behind the `{` and up to the `}`, at most so many
unfoldable pub stmts_by : Reader TStmt → ℕ → Reader (List TStmt)
stmts_by one zero n b ts = refuse ts
stmts_by one (suc k) n b ts =
    with_some (strip_mark marks.CloseCurly ts)
    (one n b ts >>= λ s. stmts_by one k s.1 s.2 s.3 >>= λ x. Ok (s.0 ∷ x.0, x.1, x.2, x.3))
    (λ us. Ok ([], n, b, us))

-- a block between its braces, where `one` reads a statement
abbrev pub braces_by : Reader TStmt → Reader TBlock
braces_by one n b ts = do
  us ← expect_mark marks.OpenCurly ts
  x ← stmts_by one (suc (length us)) n (suc b) us
  Ok (block b (stmts_of x.0), x.1, x.2, x.3)

-- a block where none may stand
abbrev pub no_block : Reader TBlock
no_block n b ts = expect_mark marks.OpenCurly ts >>= λ us. too_deep blocks_depth us

-- the block that an `else if` opens, at the `if`
abbrev pub chained_by : Reader TStmt → Reader TBlock
chained_by one n b ts = one n (suc b) ts >>= λ s. Ok (block b (more s.0 no_stmts), s.1, s.2, s.3)

-- an `else if` where no block may stand, which passes the depth
abbrev pub no_chained : Reader TBlock
no_chained n b ts = Err (depth_fault blocks_depth (length ts))

-- an `else`, if there is one, where `body` reads a block and `chained` an `else if`
abbrev pub else_by : Reader TBlock → Reader TBlock → Reader TElse
else_by body chained n b ts =
    with_some (strip_word words.Else ts) (Ok (no_else, n, b, ts))
    (λ us. with_some (strip_word words.If us) (body n b us) (λ _. chained n b us)
    >>= λ t. Ok (else_do t.0, t.1, t.2, t.3))

-- a statement, with room for so many more blocks in one another
unfoldable pub stmt_at : Limits → ℕ → Reader TStmt
stmt_at limits zero n b ts = stmt_by limits no_block (else_by no_block no_chained) n b ts
stmt_at limits (suc room) n b ts =
    stmt_by limits (braces_by (stmt_at limits room))
    (else_by (braces_by (stmt_at limits room)) (chained_by (stmt_at limits room))) n b ts

-- ---- the parts of a statement

-- a block, with room for so many more in one another
unfoldable pub block_at : Limits → ℕ → Reader TBlock
block_at limits zero n b ts = no_block n b ts
block_at limits (suc room) n b ts = braces_by (stmt_at limits room) n b ts

-- the block that an `else if` opens, with room for so many more in one another
unfoldable pub chained_at : Limits → ℕ → Reader TBlock
chained_at limits zero n b ts = no_chained n b ts
chained_at limits (suc room) n b ts = chained_by (stmt_at limits room) n b ts

-- an `else`, if there is one, with room for so many more blocks in one another
unfoldable pub else_at : Limits → ℕ → Reader TElse
else_at limits room n b ts = else_by (block_at limits room) (chained_at limits room) n b ts

-- a statement by its parts, with room for so many more blocks in one another
unfoldable pub stmt_here : Limits → ℕ → Reader TStmt
stmt_here limits room n b ts = stmt_by limits (block_at limits room) (else_at limits room) n b ts

-- the statements of a block, with room for so many more blocks in one another
unfoldable pub stmts_at : Limits → ℕ → Reader (List TStmt)
stmts_at limits room n b ts = stmts_by (stmt_at limits room) (suc (length ts)) n b ts
