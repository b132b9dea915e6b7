-- The loop over the statements of a block, one turn at a time.
use Rattle.std.proofs.Common.{◌≡◌, ℕ, Bool, true, false, Result, zero, suc, ◌+◌, ◌-◌, ◌<◌, List, [], ◌∷◌, ◌++◌, length, Some, None, Ok, Err, refl, sym, ap, ◌∙◌, arith, append_assoc}
use Rattle.std.specs.Prelude.{MatchResult}
use Rattle.std.proofs.lemmas.List.{append-nil}
use Rattle.oc_tree.specs.Tree.{TKind, TStmt, stmt, block, no_stmts, more}
use Rattle.oc_tree.specs.View.{kind_view, stmt_view, stmts_of}
use Rattle.oc_tree.specs.Names.{Text}
use Rattle.oc_tree.specs.declared.tree.Stmt.{Stmt}
use Rattle.oc_tree.specs.declared.tree.StmtKind.{StmtKind}
use Rattle.oc_lex.specs.declared.token.Kind.{Kind}
use Rattle.oc_lex.specs.declared.token.Kind.TheVariants as kinds
use Rattle.oc_lex.specs.declared.token.Mark.TheVariants as marks
use Rattle.oc_grammar.specs.Limits.{blocks_depth, the_depths}
use Rattle.oc_grammar.specs.Lexemes.{Lexeme, Lexemes, lexeme_by, line_of, says}
use Rattle.oc_grammar.specs.Reading.{Read, depth_fault, ◌>>=◌, next_at, strip_mark, expect_mark}
use Rattle.oc_grammar.specs.ReadingStatements.{ReadNumbered, simple_by, kind_by, stmts_by, stmt_at, stmts_at, stmt_here, block_at, else_at, chained_at}
use Rattle.oc_grammar.proofs.StatementsRead.{stmt_is}
use Rattle.oc_grammar.proofs.Turns.{onward, stmts_go}
use Rattle.oc_parse.specs.declared.stop.Stop.{Stop}
use Rattle.oc_parse.specs.declared.stop.Stop.TheVariants as stops
use Rattle.oc_parse.specs.declared.statement.Parser.{Parser}
use Rattle.oc_parse.specs.Steps.{Reads, ReadsTo, Adds, Stopped, left}
use Rattle.oc_parse.proofs.Loops.{stopped_bind, stopped_along}

-- what was read before, and then what is read
abbrev pub afterwards : List TStmt → ReadNumbered (List TStmt) → ReadNumbered (List TStmt)
afterwards front read = read >>= λ x. Ok (front ++ x.0, x.1, x.2, x.3)

stmts_turn : (room n b : ℕ) (ts : Lexemes) → strip_mark marks.CloseCurly ts ≡ None → stmts_at the_depths room n b ts ≡ (stmt_at the_depths room n b ts >>= onward the_depths room)
stmts_turn room n b ts none = stmts_go the_depths room n b ts ∙ rw none refl

afterwards_more : (front : List TStmt) (s : TStmt) (read : ReadNumbered (List TStmt)) → afterwards front (read >>= λ x. Ok (s ∷ x.0, x.1, x.2, x.3)) ≡ afterwards (front ++ s ∷ []) read
afterwards_more front s (Ok y) = ap (λ (l : List TStmt). Ok (l, y.1, y.2, y.3)) (sym (append_assoc front (s ∷ []) y.0))
afterwards_more front s (Err f) = refl

pub block_goes_on : (room : ℕ) (front : List TStmt) (n b : ℕ) (ts : Lexemes) (s : TStmt) (n' b' : ℕ) (us : Lexemes) (total : ReadNumbered (List TStmt))
    → strip_mark marks.CloseCurly ts ≡ None → stmt_here the_depths room n b ts ≡ Ok (s, n', b', us) → afterwards front (stmts_at the_depths room n b ts) ≡ total
    → afterwards (front ++ s ∷ []) (stmts_at the_depths room n' b' us) ≡ total
block_goes_on room front n b ts s n' b' us total none e so_far =
    let one : stmt_at the_depths room n b ts ≡ Ok (s, n', b', us) = stmt_is the_depths room n b ts ∙ e in
    let turn : stmts_at the_depths room n b ts ≡ (stmts_at the_depths room n' b' us >>= λ x. Ok (s ∷ x.0, x.1, x.2, x.3)) = stmts_turn room n b ts none ∙ rw one refl in
    sym (ap (λ (r : ReadNumbered (List TStmt)). afterwards front r) turn ∙ afterwards_more front s (stmts_at the_depths room n' b' us)) ∙ so_far

pub block_stops : (room : ℕ) (front : List TStmt) (n b : ℕ) (ts : Lexemes) (s : Stop) (total : ReadNumbered (List TStmt)) → strip_mark marks.CloseCurly ts ≡ None
    → Stopped s (stmt_here the_depths room n b ts) → afterwards front (stmts_at the_depths room n b ts) ≡ total → Stopped s total
block_stops room front n b ts s total none h so_far =
    stopped_along s _ total (sym (ap (λ (r : ReadNumbered (List TStmt)). afterwards front r) (stmts_turn room n b ts none)) ∙ so_far)
    (stopped_bind s (stmt_at the_depths room n b ts >>= onward the_depths room) _
    (stopped_bind s (stmt_at the_depths room n b ts) (onward the_depths room)
    (stopped_along s (stmt_here the_depths room n b ts) (stmt_at the_depths room n b ts) (sym (stmt_is the_depths room n b ts)) h)))

pub block_ends : (room : ℕ) (front : List TStmt) (n b : ℕ) (ts us : Lexemes) (total : ReadNumbered (List TStmt)) → strip_mark marks.CloseCurly ts ≡ Some us
    → afterwards front (stmts_at the_depths room n b ts) ≡ total → total ≡ Ok (front, n, b, us)
unfolding stmts_by stmts_at
block_ends room front n b ts us total e so_far =
    let closed : stmts_at the_depths room n b ts ≡ Ok ([], n, b, us) = rw e refl in
    sym so_far ∙ ap (λ (r : ReadNumbered (List TStmt)). afterwards front r) closed ∙ ap (λ (l : List TStmt). Ok (l, n, b, us)) (append-nil front)

-- ---- the parts of a block

pub expect_stops : (room n b : ℕ) (ts : Lexemes) (s : Stop) → Stopped s (expect_mark marks.OpenCurly ts) → Stopped s (block_at the_depths room n b ts)
unfolding block_at
expect_stops zero n b ts s h = stopped_bind s (expect_mark marks.OpenCurly ts) _ h
expect_stops (suc room) n b ts s h = stopped_bind s (expect_mark marks.OpenCurly ts) _ h

pub block_too_deep : (room n b : ℕ) (ts us : Lexemes) (k : ℕ) → room ≡ 0 → expect_mark marks.OpenCurly ts ≡ Ok us → length us ≡ k → block_at the_depths room n b ts
    ≡ Err (depth_fault blocks_depth (suc k))
unfolding block_at
block_too_deep zero n b ts us k h e l = rw (e, l) refl
block_too_deep (suc room) n b ts us k h e l = absurd (omega arith)

braced : (room n b : ℕ) (ts us : Lexemes) → 0 < room → expect_mark marks.OpenCurly ts ≡ Ok us → block_at the_depths room n b ts
    ≡ (stmts_at the_depths (room - 1) n (b + 1) us >>= λ x. Ok (block b (stmts_of x.0), x.1, x.2, x.3))
unfolding block_at stmts_at
braced zero n b ts us h e = absurd (omega arith)
braced (suc room) n b ts us h e = let p : suc room - 1 ≡ room = omega arith in let q : b + 1 ≡ suc b = omega arith in rw (p, q, e) refl

pub inside_stops : (room n b : ℕ) (ts us : Lexemes) (s : Stop) → 0 < room → expect_mark marks.OpenCurly ts ≡ Ok us → Stopped s (stmts_at the_depths (room - 1) n (b + 1) us)
    → Stopped s (block_at the_depths room n b ts)
inside_stops room n b ts us s h e d =
    stopped_along s _ (block_at the_depths room n b ts) (sym (braced room n b ts us h e))
    (stopped_bind s (stmts_at the_depths (room - 1) n (b + 1) us) (λ x. Ok (block b (stmts_of x.0), x.1, x.2, x.3)) d)

pub block_is : (room n b : ℕ) (ts us : Lexemes) (ss : List TStmt) (n' b' : ℕ) (vs : Lexemes) → 0 < room → expect_mark marks.OpenCurly ts ≡ Ok us
    → stmts_at the_depths (room - 1) n (b + 1) us ≡ Ok (ss, n', b', vs) → block_at the_depths room n b ts ≡ Ok (block b (stmts_of ss), n', b', vs)
block_is room n b ts us ss n' b' vs h e d = braced room n b ts us h e ∙ rw d refl

pub chained_too_deep : (room n b : ℕ) (ts : Lexemes) (k : ℕ) → room ≡ 0 → length ts ≡ k → chained_at the_depths room n b ts ≡ Err (depth_fault blocks_depth k)
unfolding chained_at
chained_too_deep zero n b ts k h l = rw l refl
chained_too_deep (suc room) n b ts k h l = absurd (omega arith)

chained_is_by : (room n b : ℕ) (ts : Lexemes) → 0 < room → chained_at the_depths room n b ts ≡ (stmt_here the_depths (room - 1) n (b + 1) ts >>= λ s. Ok (block b (more s.0 no_stmts), s.1, s.2, s.3))
unfolding chained_at
chained_is_by zero n b ts h = absurd (omega arith)
chained_is_by (suc room) n b ts h = let p : suc room - 1 ≡ room = omega arith in let q : b + 1 ≡ suc b = omega arith in rw (p, q, sym (stmt_is the_depths room n (suc b) ts)) refl

pub chained_stops : (room n b : ℕ) (ts : Lexemes) (s : Stop) → 0 < room → Stopped s (stmt_here the_depths (room - 1) n (b + 1) ts) → Stopped s (chained_at the_depths room n b ts)
chained_stops room n b ts s h d =
    stopped_along s _ (chained_at the_depths room n b ts) (sym (chained_is_by room n b ts h))
    (stopped_bind s (stmt_here the_depths (room - 1) n (b + 1) ts) (λ s. Ok (block b (more s.0 no_stmts), s.1, s.2, s.3)) d)

pub chained_is : (room n b : ℕ) (ts : Lexemes) (s : TStmt) (n' b' : ℕ) (us : Lexemes) → 0 < room → stmt_here the_depths (room - 1) n (b + 1) ts ≡ Ok (s, n', b', us)
    → chained_at the_depths room n b ts ≡ Ok (block b (more s no_stmts), n', b', us)
chained_is room n b ts s n' b' us h e = chained_is_by room n b ts h ∙ rw e refl

-- ---- one statement

pub lexeme_line : (atomic : Bool) (line : ℕ) (text : Text) (k : Kind) → line_of (lexeme_by atomic line text k) ≡ line
lexeme_line atomic line text kinds.Name = refl
lexeme_line atomic line text (kinds.Number v) = refl
lexeme_line atomic line text (kinds.Word w) = by_test (says atomic w) refl
  where
    by_test : (b : Bool) → says atomic w ≡ b → line_of (lexeme_by atomic line text (kinds.Word w)) ≡ line
    by_test false e = rw e refl
    by_test true e = rw e refl
lexeme_line atomic line text (kinds.Mark m) = refl

pub stmt_is_read : (room n b : ℕ) (ts us : Lexemes) (t : Lexeme) (line : ℕ) (k : TKind) (n' b' : ℕ) (vs : Lexemes) → next_at ts ≡ Ok (t, us) → line_of t ≡ line
    → kind_by the_depths (block_at the_depths room) (else_at the_depths room) t (n + 1) b us ≡ Ok (k, n', b', vs) → stmt_here the_depths room n b ts ≡ Ok (stmt n line k, n', b', vs)
unfolding stmt_here
stmt_is_read room n b ts us t line k n' b' vs e l d = let q : suc n ≡ n + 1 = omega arith in rw (e, q, d, l) refl

pub stmt_stops : (room n b : ℕ) (ts us : Lexemes) (t : Lexeme) (s : Stop) → next_at ts ≡ Ok (t, us)
    → Stopped s (kind_by the_depths (block_at the_depths room) (else_at the_depths room) t (n + 1) b us) → Stopped s (stmt_here the_depths room n b ts)
unfolding stmt_here
stmt_stops room n b ts us t s e d =
    let q : suc n ≡ n + 1 = omega arith in rw (e, q) (stopped_bind s (kind_by the_depths (block_at the_depths room) (else_at the_depths room) t (n + 1) b us) _ d)

-- a statement without blocks leaves the numbers as they are
pub simple_to : (r : Result StmtKind Stop) (p : Parser) (read : Read TKind) → Reads kind_view r (left p.reader) read → ReadsTo kind_view r p (simple_by p.statements p.blocks read)
simple_to (Ok k) p read h = rw h refl
simple_to (Err e) p read h = stopped_bind e read _ h

-- a statement is added, or there is no memory for it
pub adds_one : {U : Type 0} (r : Result U Stop) (before after : List Stmt) (one : Stmt) (p : Parser) (read : ReadNumbered TStmt)
    → read ≡ Ok (stmt_view one, p.statements, p.blocks, left p.reader) → MatchResult r (λ x. after ≡ before ++ one ∷ []) (λ s. s ≡ stops.Memory) → Adds before after r p read
adds_one (Ok x) before after one p read h is = record { one = one; adds = is; reads = h }
adds_one (Err s) before after one p read h is = rw is tt
