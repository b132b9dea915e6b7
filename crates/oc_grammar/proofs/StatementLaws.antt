-- Statements and blocks: what is read is spelled so.
use Rattle.std.proofs.Common.{◌≡◌, ℕ, zero, suc, ◌<◌, ◌≤◌, List, [], ◌∷◌, length, Ok, refl, sym, subst, arith, inl, inr}
use Rattle.oc_tree.specs.Tree.{TKind, TElse, no_else, else_do, TStmt, TBlock, block, TStmts, no_stmts, more}
use Rattle.oc_tree.specs.View.{stmts_of}
use Rattle.oc_lex.specs.declared.token.Word.TheVariants as words
use Rattle.oc_lex.specs.declared.token.Mark.TheVariants as marks
use Rattle.oc_grammar.specs.Limits.{Limits, blocks_depth}
use Rattle.oc_grammar.specs.Lexemes.{Lexeme, Lexemes, keyword}
use Rattle.oc_grammar.specs.Fronts.{Keyword, a_keyword}
use Rattle.oc_grammar.specs.Reading.{with_some, too_deep, next_at, strip_mark, strip_word, expect_mark, expect_word, name_at, number_at}
use Rattle.oc_grammar.specs.ReadingExpressions.{whole_at}
use Rattle.oc_grammar.specs.Statements.{Position, SpellsKind, simple, if_form, for_form, while_form, atomic_form, SpellsElse, without, otherwise, else_if, SpellsStmt, statement}
use Rattle.oc_grammar.specs.Statements.{SpellsBlock, braces, SpellsStmts, end, first}
use Rattle.oc_grammar.specs.ReadingStatements.{const_at, simple_from, Reader, if_by, for_by, while_by, atomic_by, simple_by, kind_by, stmt_by, stmts_by, braces_by, no_block}
use Rattle.oc_grammar.specs.ReadingStatements.{chained_by, no_chained, else_by, stmt_at, block_at}
use Rattle.oc_grammar.proofs.FrontLaws.{bind_ok, done, ok_is, with_some_ok, strip_mark_ok, strip_word_ok, expect_mark_ok, expect_word_ok, name_ok, number_ok, next_ok, sign_shorter}
use Rattle.oc_grammar.proofs.FrontLaws.{keyword_shorter, name_shorter, number_shorter}
use Rattle.oc_grammar.proofs.ExpressionLaws.{whole_sound, Inside}
use Rattle.oc_grammar.proofs.SimpleLaws.{simple_sound, simple_shorter, const_sound, const_shorter, whole_shorter}

-- a reading takes what P says
abbrev pub Takes : {A : Type 0} → (A → Position → Position → Type 0) → Reader A → Type 0
Takes P read = (n b : ℕ) (ts : Lexemes) (x : _ × ℕ × ℕ × Lexemes) → read n b ts ≡ Ok x → P x.0 (n, b, ts) (x.1, x.2, x.3)

moved : {A : Type 0} (P : A → Position → Position → Type 0) (p : Position) (x y : A × ℕ × ℕ × Lexemes) → done x ≡ done y → P x.0 p (x.1, x.2, x.3) → P y.0 p (y.1, y.2, y.3)
moved P p x y e d = subst (λ (q : _ × ℕ × ℕ × Lexemes). P q.0 p (q.1, q.2, q.3)) (ok_is x y e) d

module _ (limits : Limits) where
  if_sound : (room : ℕ) (body : Reader TBlock) (other : Reader TElse) → Takes (SpellsBlock limits room) body → Takes (SpellsElse limits room) other
      → (n b : ℕ) (from ts : Lexemes) (y : TKind × ℕ × ℕ × Lexemes) → Keyword words.If from ts → if_by limits body other n b ts ≡ Ok y → SpellsKind limits room y.0 (n, b, from) (y.1, y.2, y.3)
  unfolding if_by
  if_sound room body other bs es n b from ts y k e =
      let c = bind_ok (whole_at limits ts) _ y e in
      let t = bind_ok (body n b c.0.1) _ y c.2 in
      let o = bind_ok (other t.0.1 t.0.2 t.0.3) _ y t.2 in
      moved (SpellsKind limits room) (n, b, from) _ y o.2 (if_form k (whole_sound limits ts c.0 c.1) (bs n b c.0.1 t.0 t.1) (es t.0.1 t.0.2 t.0.3 o.0 o.1))

  for_sound : (room : ℕ) (body : Reader TBlock) → Takes (SpellsBlock limits room) body → (n b : ℕ) (from ts : Lexemes) (y : TKind × ℕ × ℕ × Lexemes) → Keyword words.For from ts
      → for_by body n b ts ≡ Ok y → SpellsKind limits room y.0 (n, b, from) (y.1, y.2, y.3)
  unfolding for_by
  for_sound room body bs n b from ts y k e =
      let x = bind_ok (name_at ts) _ y e in
      let w = bind_ok (expect_word words.In x.0.1) _ y x.2 in
      let i = bind_ok (const_at w.0) _ y w.2 in
      let r = bind_ok (expect_mark marks.Range i.0.1) _ y i.2 in
      let j = bind_ok (const_at r.0) _ y r.2 in
      let t = bind_ok (body n b j.0.1) _ y j.2 in
      moved (SpellsKind limits room) (n, b, from) _ y t.2
      (for_form k (name_ok ts x.0.0 x.0.1 x.1) (expect_word_ok words.In x.0.1 w.0 w.1) (const_sound w.0 i.0 i.1) (expect_mark_ok marks.Range i.0.1 r.0 r.1)
      (const_sound r.0 j.0 j.1) (bs n b j.0.1 t.0 t.1))

  while_sound : (room : ℕ) (body : Reader TBlock) → Takes (SpellsBlock limits room) body → (n b : ℕ) (from ts : Lexemes) (y : TKind × ℕ × ℕ × Lexemes) → Keyword words.While from ts
      → while_by limits body n b ts ≡ Ok y → SpellsKind limits room y.0 (n, b, from) (y.1, y.2, y.3)
  unfolding while_by
  while_sound room body bs n b from ts y k e =
      let c = bind_ok (whole_at limits ts) _ y e in
      let w = bind_ok (expect_word words.Bound c.0.1) _ y c.2 in
      let z = bind_ok (number_at w.0) _ y w.2 in
      let t = bind_ok (body n b z.0.1) _ y z.2 in
      moved (SpellsKind limits room) (n, b, from) _ y t.2
      (while_form k (whole_sound limits ts c.0 c.1) (expect_word_ok words.Bound c.0.1 w.0 w.1) (number_ok w.0 z.0.0 z.0.1 z.1) (bs n b z.0.1 t.0 t.1))

  atomic_sound : (room : ℕ) (body : Reader TBlock) → Takes (SpellsBlock limits room) body → (n b : ℕ) (from ts : Lexemes) (y : TKind × ℕ × ℕ × Lexemes)
      → Keyword words.Atomic from ts → atomic_by body n b ts ≡ Ok y → SpellsKind limits room y.0 (n, b, from) (y.1, y.2, y.3)
  unfolding atomic_by
  atomic_sound room body bs n b from ts y k e = let t = bind_ok (body n b ts) _ y e in moved (SpellsKind limits room) (n, b, from) _ y t.2 (atomic_form k (bs n b ts t.0 t.1))

  simple_by_sound : (room n b : ℕ) (t : Lexeme) (ts : Lexemes) (y : TKind × ℕ × ℕ × Lexemes) → simple_by n b (simple_from limits t ts) ≡ Ok y
      → SpellsKind limits room y.0 (n, b, t ∷ ts) (y.1, y.2, y.3)
  simple_by_sound room n b t ts y e =
      let k = bind_ok (simple_from limits t ts) _ y e in
      moved (SpellsKind limits room) (n, b, t ∷ ts) (k.0.0, n, b, k.0.1) y k.2 (simple (simple_sound limits t ts k.0 k.1))

  kind_sound : (room : ℕ) (body : Reader TBlock) (other : Reader TElse) → Takes (SpellsBlock limits room) body → Takes (SpellsElse limits room) other
      → (t : Lexeme) (n b : ℕ) (ts : Lexemes) (y : TKind × ℕ × ℕ × Lexemes) → kind_by limits body other t n b ts ≡ Ok y → SpellsKind limits room y.0 (n, b, t ∷ ts) (y.1, y.2, y.3)
  kind_sound room body other bs es (keyword line words.If) n b ts y e = if_sound room body other bs es n b _ ts y a_keyword e
  kind_sound room body other bs es (keyword line words.For) n b ts y e = for_sound room body bs n b _ ts y a_keyword e
  kind_sound room body other bs es (keyword line words.While) n b ts y e = while_sound room body bs n b _ ts y a_keyword e
  kind_sound room body other bs es (keyword line words.Atomic) n b ts y e = atomic_sound room body bs n b _ ts y a_keyword e
  kind_sound room body other bs es t n b ts y e = simple_by_sound room n b t ts y e

  stmt_by_sound : (room : ℕ) (body : Reader TBlock) (other : Reader TElse) → Takes (SpellsBlock limits room) body → Takes (SpellsElse limits room) other
      → Takes (SpellsStmt limits room) (stmt_by limits body other)
  stmt_by_sound room body other bs es n b ts y e =
      let x = bind_ok (next_at ts) _ y e in
      let k = bind_ok (kind_by limits body other x.0.0 (suc n) b x.0.1) _ y x.2 in
      rw (next_ok ts x.0 x.1) (moved (SpellsStmt limits room) (n, b, x.0.0 ∷ x.0.1) _ y k.2 (statement (kind_sound room body other bs es x.0.0 (suc n) b x.0.1 k.0 k.1)))

  stmts_sound : (room : ℕ) (one : Reader TStmt) → Takes (SpellsStmt limits room) one → (k : ℕ) → Takes (λ (ss : List TStmt) p q. SpellsStmts limits room (stmts_of ss) p q) (stmts_by one k)
  unfolding stmts_by
  stmts_sound room one sound zero n b ts y e = absurd cc
  stmts_sound room one sound (suc k) n b ts y e =
      let P : List TStmt → Position → Position → Type 0 = λ ss p q. SpellsStmts limits room (stmts_of ss) p q in
      elim (with_some_ok (strip_mark marks.CloseCurly ts) _ _ (Ok y) e) [
        | inl w ↦
            let s = bind_ok (one n b ts) _ y w.1 in
            let r = bind_ok (stmts_by one k s.0.1 s.0.2 s.0.3) _ y s.2 in
            moved P (n, b, ts) _ y r.2 (first (sound n b ts s.0 s.1) (stmts_sound room one sound k s.0.1 s.0.2 s.0.3 r.0 r.1))
        | inr w ↦ moved P (n, b, ts) ([], n, b, w.0) y w.2 (end (strip_mark_ok marks.CloseCurly ts w.0 w.1))
      ]

  braces_sound : (room : ℕ) (one : Reader TStmt) → Takes (SpellsStmt limits room) one → Takes (SpellsBlock limits (suc room)) (braces_by one)
  braces_sound room one sound n b ts y e =
      let o = bind_ok (expect_mark marks.OpenCurly ts) _ y e in
      let s = bind_ok (stmts_by one (suc (length o.0)) n (suc b) o.0) _ y o.2 in
      moved (SpellsBlock limits (suc room)) (n, b, ts) _ y s.2 (braces (expect_mark_ok marks.OpenCurly ts o.0 o.1) (stmts_sound room one sound (suc (length o.0)) n (suc b) o.0 s.0 s.1))

  no_block_sound : (room : ℕ) → Takes (SpellsBlock limits room) no_block
  no_block_sound room n b ts y e = let o = bind_ok (expect_mark marks.OpenCurly ts) _ y e in absurd (not_ok o.0 y o.2)
    where
      not_ok : (us : Lexemes) (y : TBlock × ℕ × ℕ × Lexemes) → too_deep blocks_depth us ≡ done y → ⊥
      not_ok us y e = cc

  -- the block that an `else if` opens
  record Chained (room : ℕ) (t : TBlock) (p q : Position) : Type 0 where
    only : TStmt
    is : t ≡ block p.1 (more only no_stmts)
    inside : Inside room (λ r. SpellsStmt limits r only (p.0, suc p.1, p.2) q)

  chained_sound : (room : ℕ) (one : Reader TStmt) → Takes (SpellsStmt limits room) one → Takes (Chained (suc room)) (chained_by one)
  chained_sound room one sound n b ts y e =
      let s = bind_ok (one n (suc b) ts) _ y e in
      moved (Chained (suc room)) (n, b, ts) _ y s.2 (record { only = s.0.0; is = refl; inside = sound n (suc b) ts s.0 s.1 })

  no_chained_sound : (room : ℕ) → Takes (Chained room) no_chained
  no_chained_sound room n b ts y e = absurd cc

  else_if_in : (room : ℕ) (n b : ℕ) (from a c : Lexemes) (t : TBlock) (p : Position) → Keyword words.Else from a → Keyword words.If a c → Chained room t (n, b, a) p
      → SpellsElse limits room (else_do t) (n, b, from) p
  else_if_in zero n b from a c t p k l d = absurd d.inside
  else_if_in (suc room) n b from a c t p k l d = subst (λ (u : TBlock). SpellsElse limits (suc room) (else_do u) (n, b, from) p) (sym d.is) (else_if k l d.inside)

  else_sound : (room : ℕ) (body chained : Reader TBlock) → Takes (SpellsBlock limits room) body → Takes (Chained room) chained → Takes (SpellsElse limits room) (else_by body chained)
  else_sound room body chained bs cs n b ts y e =
      elim (with_some_ok (strip_word words.Else ts) _ _ (Ok y) e) [
        | inl w ↦ moved (SpellsElse limits room) (n, b, ts) (no_else, n, b, ts) y w.1 without
        | inr w ↦
            let t = bind_ok (with_some (strip_word words.If w.0) (body n b w.0) (λ _. chained n b w.0)) _ y w.2 in
            moved (SpellsElse limits room) (n, b, ts) (else_do t.0.0, t.0.1, t.0.2, t.0.3) y t.2
            (elim (with_some_ok (strip_word words.If w.0) _ _ (Ok t.0) t.1) [
              | inl v ↦ otherwise (strip_word_ok words.Else ts w.0 w.1) (bs n b w.0 t.0 v.1)
              | inr v ↦ else_if_in room n b ts w.0 v.0 t.0.0 (t.0.1, t.0.2, t.0.3) (strip_word_ok words.Else ts w.0 w.1) (strip_word_ok words.If w.0 v.0 v.1) (cs n b w.0 t.0 v.2)
            ])
      ]

  pub stmt_sound : (room : ℕ) → Takes (SpellsStmt limits room) (stmt_at limits room)
  unfolding stmt_at
  stmt_sound zero = stmt_by_sound zero no_block (else_by no_block no_chained) (no_block_sound zero) (else_sound zero no_block no_chained (no_block_sound zero) (no_chained_sound zero))
  stmt_sound (suc room) =
      let bs : Takes (SpellsBlock limits (suc room)) (braces_by (stmt_at limits room)) = braces_sound room (stmt_at limits room) (stmt_sound room) in
      stmt_by_sound (suc room) (braces_by (stmt_at limits room)) (else_by (braces_by (stmt_at limits room)) (chained_by (stmt_at limits room))) bs
      (else_sound (suc room) (braces_by (stmt_at limits room)) (chained_by (stmt_at limits room)) bs (chained_sound room (stmt_at limits room) (stmt_sound room)))

  pub block_sound : (room : ℕ) → Takes (SpellsBlock limits room) (block_at limits room)
  unfolding block_at
  block_sound zero = no_block_sound zero
  block_sound (suc room) = braces_sound room (stmt_at limits room) (stmt_sound room)

  -- ---- what is left is shorter

  mutual
    pub kind_shorter : {room : ℕ} {k : TKind} {p q : Position} → SpellsKind limits room k p q → length q.2 < length p.2
    kind_shorter (simple d) = simple_shorter limits d
    kind_shorter (if_form k c t o) = let a = keyword_shorter k in let d = whole_shorter limits c in let e = block_shorter t in let f = else_shorter o in omega arith
    kind_shorter (for_form k i n c r d t) = let a = keyword_shorter k in let b = name_shorter i in let e = keyword_shorter n in let f = const_shorter c in let g = sign_shorter r in
        let h = const_shorter d in let l = block_shorter t in omega arith
    kind_shorter (while_form k c w i t) = let a = keyword_shorter k in let b = whole_shorter limits c in let d = keyword_shorter w in let e = number_shorter i in let f = block_shorter t in omega arith
    kind_shorter (atomic_form k t) = let a = keyword_shorter k in let b = block_shorter t in omega arith

    pub else_shorter : {room : ℕ} {o : TElse} {p q : Position} → SpellsElse limits room o p q → length q.2 ≤ length p.2
    else_shorter without = omega arith
    else_shorter (otherwise k t) = let a = keyword_shorter k in let b = block_shorter t in omega arith
    else_shorter (else_if k l d) = let a = keyword_shorter k in let b = stmt_shorter d in omega arith

    pub stmt_shorter : {room : ℕ} {s : TStmt} {p q : Position} → SpellsStmt limits room s p q → length q.2 < length p.2
    stmt_shorter (statement d) = kind_shorter d

    pub block_shorter : {room : ℕ} {t : TBlock} {p q : Position} → SpellsBlock limits room t p q → length q.2 < length p.2
    block_shorter (braces s d) = let a = sign_shorter s in let b = stmts_shorter d in omega arith

    pub stmts_shorter : {room : ℕ} {ss : TStmts} {p q : Position} → SpellsStmts limits room ss p q → length q.2 < length p.2
    stmts_shorter (end s) = let a = sign_shorter s in omega arith
    stmts_shorter (first d e) = let a = stmt_shorter d in let b = stmts_shorter e in omega arith
