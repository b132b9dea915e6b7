-- Readings of the parts that the code reads by functions of their own.
use Rattle.std.specs.Prelude.{ℕ, ℤ, ◌-◌, unsigned_abs, List, ◌++◌, Ok}
use Rattle.oc_tree.specs.Tree.{TExpr, binary, TRight, TBlock}
use Rattle.oc_tree.specs.declared.tree.BinaryOp.{BinaryOp}
use Rattle.oc_tree.specs.declared.tree.NvDecl.{NvDecl}
use Rattle.oc_tree.specs.declared.tree.StmtKind.{StmtKind}
use Rattle.oc_tree.specs.declared.tree.Stmt.{Stmt, roll-Stmt}
use Rattle.oc_lex.specs.declared.token.Mark.{Mark}
use Rattle.oc_lex.specs.declared.token.Mark.TheVariants as marks
use Rattle.oc_lex.specs.declared.token.Word.TheVariants as words
use Rattle.oc_grammar.specs.Limits.{the_depths}
use Rattle.oc_grammar.specs.Lexemes.{Lexemes}
use Rattle.oc_grammar.specs.Reading.{Read, ◌>>=◌, expect_mark, expect_word, number_at}
use Rattle.oc_grammar.specs.ReadingExpressions.{ReadExpr, chain, most, spend_at, level_at, inner_at, whole_at}
use Rattle.oc_grammar.specs.ReadingStatements.{Reader, const_at, right_at}
use Rattle.oc_grammar.specs.ReadingPrograms.{cells_at}

-- ---- expressions

-- the operators of a level behind a tree of the level below
abbrev pub operations_at : ℕ → ℕ → TExpr → ℕ → Lexemes → ReadExpr
operations_at level room e n ts =
    chain level (level_at the_depths (level - 1) room) (most level ts) e n ts

-- the operand of an operator of a level above 0, behind the operator
unfoldable pub operand_at : ℕ → ℕ → ℕ → Lexemes → ReadExpr
operand_at level room n ts = spend_at n ts >>= λ m. level_at the_depths (level - 1) room m ts

-- the operand, behind an operator of a level above 0 that stands behind a tree of the level below
unfoldable pub operation_at : ℕ → ℕ → BinaryOp → TExpr → ℕ → Lexemes → ReadExpr
operation_at level room op e n ts =
    operand_at level room n ts >>= λ x. Ok (binary op e x.0, x.1, x.2)

-- the expression in brackets up to this mark, behind the first one, with this room for brackets
abbrev pub enclosed_at : Mark → ℕ → ℕ → Lexemes → ReadExpr
enclosed_at close room n ts =
    inner_at the_depths room n ts >>= λ x. expect_mark close x.2 >>= λ us. Ok (x.0, x.1, us)

-- what was read before, and then what is read
abbrev pub after : {A : Type 0} → List A → Read (List A) → Read (List A)
after front read = read >>= λ x. Ok (front ++ x.0, x.1)

-- a whole expression, up to and with this mark
unfoldable pub ended_at : Mark → Lexemes → Read TExpr
ended_at end ts = do
  e ← whole_at the_depths ts
  us ← expect_mark end e.1
  Ok (e.0, us)

-- ---- statements

-- a `=`, a right side and the `;`
unfoldable pub assigned_at : Lexemes → Read TRight
assigned_at ts = expect_mark marks.Assign ts >>= right_at the_depths

-- the `,`, the value and the `);` of an output, behind its port
unfoldable pub emitted_at : Lexemes → Read TExpr
emitted_at ts = do
  us ← expect_mark marks.Comma ts
  v ← ended_at marks.CloseRound us
  us ← expect_mark marks.Semicolon v.1
  Ok (v.0, us)

-- the ends and the block of a `for`, behind its variable, where `body` reads a block
unfoldable pub ranged_by : Reader TBlock → Reader (ℤ × ℤ × TBlock)
ranged_by body n b ts = do
  us ← expect_word words.In ts
  i ← const_at us
  us ← expect_mark marks.Range i.1
  j ← const_at us
  t ← body n b j.1
  Ok ((i.0, j.0, t.0), t.1, t.2, t.3)

-- the bound and the block of a `while`, behind its condition, where `body` reads a block
unfoldable pub bounded_by : Reader TBlock → Reader (ℕ × TBlock)
bounded_by body n b ts = do
  us ← expect_word words.Bound ts
  z ← number_at us
  t ← body n b z.1
  Ok ((unsigned_abs z.0, t.0), t.1, t.2, t.3)

-- the statement with this number and line that does this
abbrev pub statement_of : ℕ → ℕ → StmtKind → Stmt
statement_of id line kind = roll-Stmt (record { id = id; line = line; kind = kind })

-- ---- declarations

-- the type and the initial value of a nonvolatile variable, behind its name
unfoldable pub declaration_at : Lexemes → Read NvDecl
declaration_at ts = do
  us ← expect_mark marks.Colon ts
  c ← cells_at us
  us ← expect_mark marks.Assign c.1
  i ← const_at us
  us ← expect_mark marks.Semicolon i.1
  Ok (record { words = c.0.0; array = c.0.1; initial = i.0 }, us)
