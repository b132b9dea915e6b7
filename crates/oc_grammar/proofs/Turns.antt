-- The statements of a block and the items of a program, one turn at a time.
use Rattle.std.proofs.Common.{◌≡◌, ℕ, zero, suc, ◌<◌, List, [], ◌∷◌, length, Result, Ok, refl, ap, arith}
use Rattle.oc_tree.specs.Tree.{TStmt, TProgram}
use Rattle.oc_lex.specs.declared.token.Mark.TheVariants as marks
use Rattle.oc_grammar.specs.Limits.{Limits}
use Rattle.oc_grammar.specs.Lexemes.{Lexeme, Lexemes}
use Rattle.oc_grammar.specs.Reading.{Fault, ◌>>=◌, with_some, strip_mark}
use Rattle.oc_grammar.specs.ReadingStatements.{ReadNumbered, stmts_by, stmt_at, stmts_at}
use Rattle.oc_grammar.specs.ReadingPrograms.{item_at, items_by, items_at}
use Rattle.oc_grammar.proofs.FrontLaws.{bind_same, with_some_same}
use Rattle.oc_grammar.proofs.StatementLaws.{stmt_sound, stmt_shorter}
use Rattle.oc_grammar.proofs.ProgramLaws.{item_sound, item_shorter}

-- ---- any number of statements that is enough

pub stmt_at_shorter : (limits : Limits) (room n b : ℕ) (ts : Lexemes) (x : TStmt × ℕ × ℕ × Lexemes) → stmt_at limits room n b ts ≡ Ok x → length x.3 < length ts
stmt_at_shorter limits room n b ts x e = stmt_shorter limits (stmt_sound limits room n b ts x e)

pub stmts_enough : (limits : Limits) (room k j n b : ℕ) (ts : Lexemes) → length ts < k → length ts < j → stmts_by (stmt_at limits room) k n b ts ≡ stmts_by (stmt_at limits room) j n b ts
unfolding stmts_by
stmts_enough limits room zero j n b ts h g = absurd (omega arith)
stmts_enough limits room (suc k) zero n b ts h g = absurd (omega arith)
stmts_enough limits room (suc k) (suc j) n b ts h g =
    with_some_same (strip_mark marks.CloseCurly ts) _ _ _ _
    (λ _. bind_same (stmt_at limits room n b ts) _ _ (λ s e.
    let l = stmt_at_shorter limits room n b ts s e in
    ap (λ (r : ReadNumbered (List TStmt)). r >>= λ x. Ok (s.0 ∷ x.0, x.1, x.2, x.3)) (stmts_enough limits room k j s.1 s.2 s.3 (omega arith) (omega arith))))
    (λ us _. refl)

-- behind one statement
abbrev pub onward : Limits → ℕ → TStmt × ℕ × ℕ × Lexemes → ReadNumbered (List TStmt)
onward limits room s = stmts_at limits room s.1 s.2 s.3 >>= λ x. Ok (s.0 ∷ x.0, x.1, x.2, x.3)

pub stmts_go : (limits : Limits) (room n b : ℕ) (ts : Lexemes) → stmts_at limits room n b ts
    ≡ with_some (strip_mark marks.CloseCurly ts) (stmt_at limits room n b ts >>= onward limits room) (λ us. Ok ([], n, b, us))
unfolding stmts_by stmts_at
stmts_go limits room n b ts =
    with_some_same (strip_mark marks.CloseCurly ts) _ _ _ _
    (λ _. bind_same (stmt_at limits room n b ts) _ _ (λ s e.
    let l = stmt_at_shorter limits room n b ts s e in
    ap (λ (r : ReadNumbered (List TStmt)). r >>= λ x. Ok (s.0 ∷ x.0, x.1, x.2, x.3)) (stmts_enough limits room (length ts) (suc (length s.3)) s.1 s.2 s.3 (omega arith) (omega arith))))
    (λ us _. refl)

-- ---- any number of items that is enough

pub item_at_shorter : (limits : Limits) (p : TProgram) (n b : ℕ) (ts : Lexemes) (x : TProgram × ℕ × ℕ × Lexemes) → item_at limits p n b ts ≡ Ok x → length x.3 < length ts
item_at_shorter limits p n b ts x e = item_shorter limits (item_sound limits p n b ts x e)

pub items_enough : (limits : Limits) (k j : ℕ) (p : TProgram) (n b : ℕ) (ts : Lexemes) → length ts < k → length ts < j → items_by limits k p n b ts ≡ items_by limits j p n b ts
unfolding items_by
items_enough limits zero j p n b ts h g = absurd (omega arith)
items_enough limits (suc k) zero p n b ts h g = absurd (omega arith)
items_enough limits (suc k) (suc j) p n b [] h g = refl
items_enough limits (suc k) (suc j) p n b (t ∷ ts) h g =
    bind_same (item_at limits p n b (t ∷ ts)) _ _ (λ x e.
    let l = item_at_shorter limits p n b (t ∷ ts) x e in
    items_enough limits k j x.0 x.1 x.2 x.3 (omega arith) (omega arith))

abbrev pub next_items : Limits → TProgram × ℕ × ℕ × Lexemes → Result TProgram Fault
next_items limits x = items_at limits x.0 x.1 x.2 x.3

pub items_go : (limits : Limits) (p : TProgram) (n b : ℕ) (t : Lexeme) (ts : Lexemes) → items_at limits p n b (t ∷ ts) ≡ (item_at limits p n b (t ∷ ts) >>= next_items limits)
unfolding items_by items_at
items_go limits p n b t ts =
    bind_same (item_at limits p n b (t ∷ ts)) _ _ (λ x e.
    let l = item_at_shorter limits p n b (t ∷ ts) x e in
    items_enough limits (suc (length ts)) (suc (length x.3)) x.0 x.1 x.2 x.3 (omega arith) (omega arith))

pub items_end : (limits : Limits) (p : TProgram) (n b : ℕ) → items_at limits p n b [] ≡ Ok p
unfolding items_by items_at
items_end limits p n b = refl
