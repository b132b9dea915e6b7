-- Statements and blocks: what is spelled so is read.
use Rattle.std.proofs.Common.{◌≡◌, ℕ, zero, suc, ◌<◌, List, [], ◌∷◌, length, None, Ok, refl, ap, ◌∙◌, arith}
use Rattle.oc_tree.specs.Tree.{TKind, TElse, TStmt, stmt, TBlock, TStmts, no_stmts, more}
use Rattle.oc_tree.specs.View.{stmts_of}
use Rattle.oc_lex.specs.declared.token.Word.TheVariants as words
use Rattle.oc_lex.specs.declared.token.Mark.TheVariants as marks
use Rattle.oc_grammar.specs.Limits.{Limits}
use Rattle.oc_grammar.specs.Lexemes.{Lexemes, front_line}
use Rattle.oc_grammar.specs.Fronts.{a_name, a_keyword, a_sign}
use Rattle.oc_grammar.specs.Reading.{next_at, strip_mark, strip_word}
use Rattle.oc_grammar.specs.Statements.{Position, SpellsSimple, let_right, let_fill, let_head, assigns, assigns_index, assigns_deref, calls, senses, emits, marks_fresh}
use Rattle.oc_grammar.specs.Statements.{marks_consistent, returns, SpellsKind, simple, if_form, for_form, while_form, atomic_form, SpellsElse, without, otherwise, else_if}
use Rattle.oc_grammar.specs.Statements.{SpellsStmt, statement, SpellsBlock, braces, SpellsStmts, end, first}
use Rattle.oc_grammar.specs.ReadingStatements.{Reader, if_by, for_by, while_by, atomic_by, stmt_by, stmts_by, stmt_at, block_at, chained_at, else_at, stmt_here}
use Rattle.oc_grammar.proofs.FrontLaws.{sign_strip, sign_expect, keyword_strip, keyword_expect, name_read, number_read}
use Rattle.oc_grammar.proofs.ExpressionsRead.{Stops, stops_sign, stops_keyword, whole_read}
use Rattle.oc_grammar.proofs.SimpleLaws.{KindRead, simple_read, const_read}
use Rattle.oc_grammar.proofs.StatementLaws.{stmt_shorter}

-- ---- statements in a list

stmt_list : TStmts → List TStmt
stmt_list no_stmts = []
stmt_list (more s ss) = s ∷ stmt_list ss

stmts_back : (ss : TStmts) → stmts_of (stmt_list ss) ≡ ss
unfolding stmt_list
stmts_back no_stmts = refl
stmts_back (more s ss) = ap (λ (r : TStmts). more s r) (stmts_back ss)

module _ (limits : Limits) where
  pub stmt_is : (room n b : ℕ) (ts : Lexemes) → stmt_at limits room n b ts ≡ stmt_here limits room n b ts
  unfolding stmt_at stmt_here block_at else_at chained_at
  stmt_is zero n b ts = refl
  stmt_is (suc room) n b ts = refl

  -- ---- fronts

  simple_front : {k : TKind} {from rest : Lexemes} → SpellsSimple limits k from rest → (strip_mark marks.CloseCurly from ≡ None) × (strip_word words.Else from ≡ None)
  unfolding strip_mark strip_word
  simple_front (let_right (let_head a_keyword m i t s) r) = (refl, refl)
  simple_front (let_fill (let_head a_keyword m i t s) o z u v c w) = (refl, refl)
  simple_front (assigns a_name s r) = (refl, refl)
  simple_front (assigns_index a_name o w c s r) = (refl, refl)
  simple_front (assigns_deref a_sign i s r) = (refl, refl)
  simple_front (calls a_name o d s) = (refl, refl)
  simple_front (senses a_keyword o i c s) = (refl, refl)
  simple_front (emits a_keyword o i m w c s) = (refl, refl)
  simple_front (marks_fresh a_keyword o i c s) = (refl, refl)
  simple_front (marks_consistent a_keyword o i m v c s) = (refl, refl)
  simple_front (returns a_keyword w s) = (refl, refl)

  kind_front : {room : ℕ} {k : TKind} {p q : Position} → SpellsKind limits room k p q → (strip_mark marks.CloseCurly p.2 ≡ None) × (strip_word words.Else p.2 ≡ None)
  unfolding strip_mark strip_word
  kind_front (simple d) = simple_front d
  kind_front (if_form a_keyword c t o) = (refl, refl)
  kind_front (for_form a_keyword i n c r d t) = (refl, refl)
  kind_front (while_form a_keyword c w i t) = (refl, refl)
  kind_front (atomic_form a_keyword t) = (refl, refl)

  stmt_front : {room : ℕ} {s : TStmt} {p q : Position} → SpellsStmt limits room s p q → (strip_mark marks.CloseCurly p.2 ≡ None) × (strip_word words.Else p.2 ≡ None)
  stmt_front (statement d) = kind_front d

  stmts_front : {room : ℕ} {ss : TStmts} {p q : Position} → SpellsStmts limits room ss p q → strip_word words.Else p.2 ≡ None
  unfolding strip_word
  stmts_front (end a_sign) = refl
  stmts_front (first d e) = (stmt_front d).1

  block_stops : {room : ℕ} {t : TBlock} {p q : Position} → SpellsBlock limits room t p q → Stops 6 p.2
  block_stops (braces s d) = stops_sign 6 marks.OpenCurly _ _ refl refl refl s

  block_no_if : {room : ℕ} {t : TBlock} {p q : Position} → SpellsBlock limits room t p q → strip_word words.If p.2 ≡ None
  unfolding strip_word
  block_no_if (braces a_sign d) = refl

  -- ---- what is spelled so is read

  with_line : (body : Reader TBlock) (other : Reader TElse) (n b : ℕ) (from : Lexemes) (k : TKind) (p : Position) → KindRead limits body other k (suc n) b from p
      → stmt_by limits body other n b from ≡ Ok (stmt n (front_line from) k, p.0, p.1, p.2)
  unfolding next_at
  with_line body other n b [] k p e = absurd cc
  with_line body other n b (t ∷ ts) k p e = rw e refl

  mutual
    unfolding next_at stmt_list if_by for_by while_by atomic_by stmts_by block_at chained_at else_at stmt_here

    kind_read : {room : ℕ} {k : TKind} {p q : Position} → SpellsKind limits room k p q → strip_word words.Else q.2 ≡ None → KindRead limits (block_at limits room) (else_at limits room) k p.0 p.1 p.2 q
    kind_read (simple {room = room} {n = n} {b = b} d) h = simple_read limits (block_at limits room) (else_at limits room) n b d
    kind_read (if_form a_keyword c t o) h = rw (whole_read limits c (block_stops t), block_read t, else_read o h) refl
    kind_read (for_form a_keyword i w c r d t) h = rw (name_read i, keyword_expect w, const_read c, sign_expect r, const_read d, block_read t) refl
    kind_read (while_form a_keyword c w i t) h = rw (whole_read limits c (stops_keyword 6 w), keyword_expect w, number_read i, block_read t) refl
    kind_read (atomic_form a_keyword t) h = rw (block_read t) refl

    else_read : {room : ℕ} {o : TElse} {p q : Position} → SpellsElse limits room o p q → strip_word words.Else q.2 ≡ None → else_at limits room p.0 p.1 p.2 ≡ Ok (o, q.0, q.1, q.2)
    else_read without h = rw h refl
    else_read (otherwise k t) h = rw (keyword_strip k, block_no_if t, block_read t) refl
    else_read (else_if k l d) h = rw (keyword_strip k, keyword_strip l, stmt_read d h) refl

    pub stmt_read : {room : ℕ} {s : TStmt} {p q : Position} → SpellsStmt limits room s p q → strip_word words.Else q.2 ≡ None → stmt_at limits room p.0 p.1 p.2 ≡ Ok (s, q.0, q.1, q.2)
    stmt_read (statement {room = room} {n = n} {b = b} {k = k} {from = from} {p = p} d) h = stmt_is room n b from ∙ with_line (block_at limits room) (else_at limits room) n b from k p (kind_read d h)

    pub block_read : {room : ℕ} {t : TBlock} {p q : Position} → SpellsBlock limits room t p q → block_at limits room p.0 p.1 p.2 ≡ Ok (t, q.0, q.1, q.2)
    block_read (braces {ss = ss} {a = a} s d) = rw (sign_expect s, stmts_read d (suc (length a)) (omega arith), stmts_back ss) refl

    stmts_read : {room : ℕ} {ss : TStmts} {p q : Position} → SpellsStmts limits room ss p q → (k : ℕ) → length p.2 < k → stmts_by (stmt_at limits room) k p.0 p.1 p.2 ≡ Ok (stmt_list ss, q.0, q.1, q.2)
    stmts_read (end s) zero h = absurd (omega arith)
    stmts_read (end s) (suc k) h = rw (sign_strip s) refl
    stmts_read (first d e) zero h = absurd (omega arith)
    stmts_read (first d e) (suc k) h =
        let g = stmt_shorter limits d in
        rw ((stmt_front d).0, stmt_read d (stmts_front e), stmts_read e k (omega arith)) refl
