-- Statements and blocks, read together.
use Rattle.std.proofs.Common.{◌≡◌, ℕ, zero, suc, true, false, List, [], ◌∷◌, length, Result, Ok, refl, sym, subst, ◌∙◌, arith, inl, inr, ◌⊎◌}
use Rattle.std.specs.Prelude.{unsigned_abs}
use Rattle.oc_tree.specs.Tree.{TExpr, truth, TArg, TKind, if_else, for_in, while_do, TElse, no_else, else_do, TStmt, stmt, TBlock, block, no_stmts, more}
use Rattle.oc_tree.specs.View.{stmts_of}
use Rattle.oc_lex.specs.declared.token.Word.TheVariants as words
use Rattle.oc_lex.specs.declared.token.Mark.TheVariants as marks
use Rattle.oc_grammar.specs.Limits.{Depth, blocks_depth, Limits}
use Rattle.oc_grammar.specs.Depths.{curly}
use Rattle.oc_grammar.specs.Lexemes.{Lexeme, Lexemes, keyword, sign, line_of}
use Rattle.oc_grammar.specs.Reading.{Fault, ◌>>=◌, with_some, refuse, too_deep, strip_mark, strip_word, expect_mark}
use Rattle.oc_grammar.specs.ReadingExpressions.{args_at, whole_at}
use Rattle.oc_grammar.specs.ReadingStatements.{simple_from, ReadNumbered, if_by, for_by, while_by, atomic_by, simple_by, kind_by, stmts_by, stmt_at, stmts_at, stmt_here, block_at, chained_at, else_at}
use Rattle.oc_grammar.proofs.FrontLaws.{bind_ok}
use Rattle.oc_grammar.proofs.StatementsRead.{stmt_is}
use Rattle.oc_grammar.proofs.Turns.{stmt_at_shorter, onward, stmts_go}
use Rattle.oc_grammar.proofs.Online.{Reading, Shape, shape, Positive, is_curly, Live, Ready, ready_given, live_bind, ready_bind, Online, far, Step, refused, taken, both_deep}
use Rattle.oc_grammar.proofs.Online.{one_deep, same, bind, bind_step, later, cut}
use Rattle.oc_grammar.proofs.Together.{reads, rest_of, IsMark, IsWord, mark_fronts, word_fronts, Closing, plain_mark, Good, Mostly, fair, fair_wide, given, good_bind, fair_bind}
use Rattle.oc_grammar.proofs.Together.{mostly_bind, go, choose, optional, dispatch, expect_bind, peek_online, refused_at, mark_good, word_good, name_good, number_good}
use Rattle.oc_grammar.proofs.TogetherExpressions.{Above, base, up}
use Rattle.oc_grammar.proofs.TogetherSimple.{const_good, Simply, simply}

abbrev pub numbered : (A : Type 0) → Shape (A × ℕ × ℕ) (A × ℕ × ℕ) (A × ℕ × ℕ × Lexemes) (A × ℕ × ℕ × Lexemes)
numbered A = shape (λ i ts. (i.0, i.1, i.2, ts)) (λ i ts. (i.0, i.1, i.2, ts))

abbrev pub with_numbers : {A : Type 0} → A × ℕ × ℕ → Lexemes → A × ℕ × ℕ × Lexemes
with_numbers i ts = (i.0, i.1, i.2, ts)

-- no block is read where none may stand
no_block_read : (limits : Limits) (n b : ℕ) (ts : Lexemes) (x : TBlock × ℕ × ℕ × Lexemes) → block_at limits 0 n b ts ≡ Ok x → ⊥
unfolding block_at
no_block_read limits n b ts x e = let o = bind_ok (expect_mark marks.OpenCurly ts) _ x e in not_ok o.0 x o.2
  where
    not_ok : (us : Lexemes) (y : TBlock × ℕ × ℕ × Lexemes) → too_deep blocks_depth us ≡ Ok y → ⊥
    not_ok us y e = cc

module _ (gap : Depth → ℕ) (asks : Lexeme → Type 0) (small large : Limits) where
  abbrev closing_close : Closing marks.CloseCurly
  closing_close = record { other_round = refl; other_square = refl; other_colon = refl; other_arrow = refl; other_ampersand = refl; no_infix = refl }

  abbrev closing_open : Closing marks.OpenCurly
  closing_open = record { other_round = refl; other_square = refl; other_colon = refl; other_arrow = refl; other_ampersand = refl; no_infix = refl }

  -- ---- what completes blocks

  abbrev stmts_live : (room n b : ℕ) → Live false with_numbers (stmts_at large room n b)
  unfolding stmts_at stmts_by strip_mark
  stmts_live room n b = record { more = sign 1 marks.CloseCurly ∷ []; value = ([], n, b); reads = λ rest h. refl }

  block_ready : (room n b : ℕ) → Ready false with_numbers (block_at large (suc room) n b)
  unfolding block_at stmts_by strip_mark expect_mark
  block_ready room n b = record {
    live = record { more = sign 1 marks.OpenCurly ∷ sign 1 marks.CloseCurly ∷ []; value = (block b (stmts_of []), n, suc b); reads = λ rest h. refl };
    plain = λ rest h. plain_mark 1 marks.OpenCurly (sign 1 marks.CloseCurly ∷ rest) closing_open;
  }

  else_ready : (room n b : ℕ) → Ready false with_numbers (else_at large room n b)
  unfolding else_at
  else_ready room n b = record { live = record { more = []; value = (no_else, n, b); reads = λ rest h. rw h.no_else refl }; plain = λ rest h. h }

  -- behind the `{`
  abbrev behind_curly : ℕ → ℕ → ℕ → Lexemes → ReadNumbered TBlock
  behind_curly room n b us = stmts_by (stmt_at large room) (suc (length us)) n (suc b) us >>= λ x. Ok (block b (stmts_of x.0), x.1, x.2, x.3)

  behind_live : (room n b : ℕ) → Live false with_numbers (behind_curly room n b)
  unfolding stmts_by strip_mark
  behind_live room n b = record { more = sign 1 marks.CloseCurly ∷ []; value = (block b (stmts_of []), n, suc b); reads = λ rest h. refl }

  mostly : {I K X Y : Type 0} {s : Shape I K X Y} {r : Reading X} {q : Reading Y} → Good gap asks s true r q → Mostly gap asks s r q
  mostly g = record { online = g.online; ready = λ t a e. g.ready }

  -- ---- statements, by what is known of their blocks

  abbrev if_rest : Limits → ℕ → TExpr → ℕ → ℕ → Lexemes → ReadNumbered TKind
  if_rest limits room c n b ts = block_at limits room n b ts >>= λ t. else_at limits room t.1 t.2 t.3 >>= λ o. Ok (if_else c t.0 o.0, o.1, o.2, o.3)

  abbrev loop_rest : Limits → ℕ → (TBlock → TKind) → ℕ → ℕ → Lexemes → ReadNumbered TKind
  loop_rest limits room f n b ts = block_at limits room n b ts >>= λ t. Ok (f t.0, t.1, t.2, t.3)

  module _ (whole : Good gap asks (reads TExpr) false (whole_at small) (whole_at large))
      (args : Good gap asks (reads (List TArg)) false (args_at small small.brackets) (args_at large large.brackets)) where
    module _ (room room' : ℕ) (ifs : (c : TExpr) (n b : ℕ) → Mostly gap asks (numbered TKind) (if_rest small room c n b) (if_rest large room' c n b))
        (loops : (f : TBlock → TKind) (n b : ℕ) → Mostly gap asks (numbered TKind) (loop_rest small room f n b) (loop_rest large room' f n b)) where
      if_mostly : (n b : ℕ) → Mostly gap asks (numbered TKind) (if_by small (block_at small room) (else_at small room) n b) (if_by large (block_at large room') (else_at large room') n b)
      unfolding if_by
      if_mostly n b = mostly_bind gap asks _ _ whole (λ c. ifs c n b)

      for_mostly : (n b : ℕ) → Mostly gap asks (numbered TKind) (for_by (block_at small room) n b) (for_by (block_at large room') n b)
      unfolding for_by
      for_mostly n b =
          mostly_bind gap asks _ _ (name_good gap asks) (λ x.
          mostly_bind gap asks _ _ (word_good gap asks words.In (record { other_mutable = refl; other_else = refl; other_if = refl })) (λ u.
          mostly_bind gap asks _ _ (const_good gap asks) (λ i.
          mostly_bind gap asks _ _ (mark_good gap asks marks.Range (λ line. refl)
          (record { other_round = refl; other_square = refl; other_colon = refl; other_arrow = refl; other_ampersand = refl; no_infix = refl })) (λ v.
          mostly_bind gap asks _ _ (const_good gap asks) (λ j.
          loops (λ t. for_in x i j t) n b)))))

      while_mostly : (n b : ℕ) → Mostly gap asks (numbered TKind) (while_by small (block_at small room) n b) (while_by large (block_at large room') n b)
      unfolding while_by
      while_mostly n b =
          mostly_bind gap asks _ _ whole (λ c.
          mostly_bind gap asks _ _ (word_good gap asks words.Bound (record { other_mutable = refl; other_else = refl; other_if = refl })) (λ u.
          mostly_bind gap asks _ _ (number_good gap asks) (λ z.
          loops (λ t. while_do c (unsigned_abs z) t) n b)))

      atomic_mostly : (n b : ℕ) → Mostly gap asks (numbered TKind) (atomic_by (block_at small room) n b) (atomic_by (block_at large room') n b)
      unfolding atomic_by
      atomic_mostly n b = loops (λ t. if_else (truth true) t no_else) n b

      simple_step : (n b k : ℕ) (t : Lexeme) → Simply gap asks small large whole args t → Step gap asks (numbered TKind) true k t (λ ts. simple_by n b (simple_from small t ts))
          (λ ts. simple_by n b (simple_from large t ts))
      simple_step n b k t (inl f) = go gap asks (fair_wide gap asks (fair_bind gap asks _ _ f (λ i. given gap asks (i, n, b)))) tt
      simple_step n b k t (inr h) = refused (λ ts. rw (h.0 ts) refl) (λ ts. rw (h.1 ts) refl)

      kind_step : (n b k : ℕ) (t : Lexeme) → Step gap asks (numbered TKind) true k t (kind_by small (block_at small room) (else_at small room) t n b)
          (kind_by large (block_at large room') (else_at large room') t n b)
      kind_step n b k (keyword line words.If) = taken ((if_mostly n b).online k) tt (λ a. ((if_mostly n b).ready (keyword line words.If) a refl).live)
      kind_step n b k (keyword line words.For) = taken ((for_mostly n b).online k) tt (λ a. ((for_mostly n b).ready (keyword line words.For) a refl).live)
      kind_step n b k (keyword line words.While) = taken ((while_mostly n b).online k) tt (λ a. ((while_mostly n b).ready (keyword line words.While) a refl).live)
      kind_step n b k (keyword line words.Atomic) = taken ((atomic_mostly n b).online k) tt (λ a. ((atomic_mostly n b).ready (keyword line words.Atomic) a refl).live)
      kind_step n b k t = simple_step n b k t (simply gap asks small large whole args t)

      stmt_of : (n b k : ℕ) → Online gap asks (numbered TStmt) true k (stmt_at small room n b) (stmt_at large room' n b)
      unfolding stmt_here
      stmt_of n b k = same gap asks
          (dispatch gap asks (λ t ts. kind_by small (block_at small room) (else_at small room) t (suc n) b ts >>= λ k. Ok (stmt n (line_of t) k.0, k.1, k.2, k.3))
          (λ t ts. kind_by large (block_at large room') (else_at large room') t (suc n) b ts >>= λ k. Ok (stmt n (line_of t) k.0, k.1, k.2, k.3))
          (λ k t. bind_step gap asks with_numbers with_numbers (λ i. i) (numbered TStmt) true true _ _ (λ t e. e)
          (λ u a e i. ready_given with_numbers (stmt n (line_of t) i.0, i.1, i.2)) (kind_step (suc n) b k t) (λ i. (given gap asks (stmt n (line_of t) i.0, i.1, i.2)).online (suc k))) k)
          (stmt_at small room n b) (stmt_at large room' n b) (λ ts. sym (stmt_is small room n b ts)) (λ ts. sym (stmt_is large room' n b ts))

    -- ---- blocks

    module _ (room room' : ℕ) (one : (n b k : ℕ) → Online gap asks (numbered TStmt) true k (stmt_at small room n b) (stmt_at large room' n b)) where
      stmts_ready : (s : TStmt × ℕ × ℕ) → Ready false with_numbers (λ ts. onward large room' (s.0, s.1, s.2, ts))
      unfolding stmts_at stmts_by strip_mark
      stmts_ready s = record {
        live = record { more = sign 1 marks.CloseCurly ∷ []; value = (s.0 ∷ [], s.1, s.2); reads = λ rest h. refl };
        plain =
            λ rest h. plain_mark 1 marks.CloseCurly rest closing_close;
      }

      stmts_online : (k n b : ℕ) → Online gap asks (numbered (List TStmt)) true k (stmts_at small room n b) (stmts_at large room' n b)
      stmts_online zero n b = far
      stmts_online (suc k) n b =
          same gap asks
          (choose gap asks (numbered (List TStmt)) true (strip_mark marks.CloseCurly) rest_of (λ v. IsMark marks.CloseCurly) (mark_fronts marks.CloseCurly)
          (λ ts. stmt_at small room n b ts >>= onward small room) (λ ts. stmt_at large room' n b ts >>= onward large room') (λ us. Ok ([], n, b, us)) (λ us. Ok ([], n, b, us)) k
          (later gap asks with_numbers with_numbers (λ i. i) (numbered (List TStmt)) true true (onward small room) (onward large room') (λ t e. e) (λ t a e s. stmts_ready s)
          (one n b (suc k)) (λ i ts e. let h = stmt_at_shorter small room n b ts (i.0, i.1, i.2, ts) e in omega arith)
          (λ s. bind gap asks with_numbers with_numbers (λ i. i) (numbered (List TStmt)) true true (λ x. Ok (s.0 ∷ x.0, x.1, x.2, x.3)) (λ x. Ok (s.0 ∷ x.0, x.1, x.2, x.3))
          (λ t e. e) (λ t a e i. ready_given with_numbers (s.0 ∷ i.0, i.1, i.2)) (stmts_online k s.1 s.2) (λ i. (given gap asks (s.0 ∷ i.0, i.1, i.2)).online k)))
          (λ v t p. go gap asks (fair gap asks (given gap asks ([], n, b))) tt))
          (stmts_at small room n b) (stmts_at large room' n b) (λ ts. sym (stmts_go small room n b ts)) (λ ts. sym (stmts_go large room' n b ts))

      -- behind the `{`
      abbrev inside : Limits → ℕ → ℕ → ℕ → Lexemes → ReadNumbered TBlock
      inside limits room n b us = stmts_at limits room n (suc b) us >>= λ x. Ok (block b (stmts_of x.0), x.1, x.2, x.3)

      block_online : (n b k : ℕ) → Online gap asks (numbered TBlock) true k (block_at small (suc room) n b) (block_at large (suc room') n b)
      unfolding block_at stmts_at
      block_online n b zero = far
      block_online n b (suc k) =
          same gap asks
          (choose gap asks (numbered TBlock) true (strip_mark marks.OpenCurly) rest_of (λ v. IsMark marks.OpenCurly) (mark_fronts marks.OpenCurly)
          (λ ts. refuse ts) (λ ts. refuse ts) (inside small room n b) (inside large room' n b) k (refused_at gap asks (numbered TBlock) true (suc k))
          (λ v t p. taken (bind gap asks with_numbers with_numbers (λ i. i) (numbered TBlock) true true _ _ (λ t e. e)
          (λ t a e i. ready_given with_numbers (block b (stmts_of i.0), i.1, i.2)) (stmts_online k n (suc b)) (λ i. (given gap asks (block b (stmts_of i.0), i.1, i.2)).online k)) tt
          (λ a. live_bind false with_numbers with_numbers (stmts_at large room' n (suc b)) _ (stmts_live room' n (suc b)) (λ i. ready_given with_numbers (block b (stmts_of i.0), i.1, i.2)))))
          (block_at small (suc room) n b) (block_at large (suc room') n b) (λ ts. expect_bind marks.OpenCurly ts (inside small room n b))
          (λ ts. expect_bind marks.OpenCurly ts (inside large room' n b))

      block_good : (n b : ℕ) → Good gap asks (numbered TBlock) true (block_at small (suc room) n b) (block_at large (suc room') n b)
      block_good n b = record { online = block_online n b; ready = block_ready room' n b }

      chained_online : (n b k : ℕ) → Online gap asks (numbered TBlock) true k (chained_at small (suc room) n b) (chained_at large (suc room') n b)
      unfolding chained_at
      chained_online n b k = bind gap asks with_numbers with_numbers (λ i. i) (numbered TBlock) true true _ _ (λ t e. e)
          (λ t a e i. ready_given with_numbers (block b (more i.0 no_stmts), i.1, i.2)) (one n (suc b) k) (λ i. (given gap asks (block b (more i.0 no_stmts), i.1, i.2)).online k)

      -- behind the `else`
      abbrev either : Limits → ℕ → ℕ → ℕ → Lexemes → ReadNumbered TBlock
      either limits room n b us = with_some (strip_word words.If us) (block_at limits (suc room) n b us) (λ z. chained_at limits (suc room) n b us)

      either_good : (n b : ℕ) → Good gap asks (numbered TBlock) true (either small room n b) (either large room' n b)
      either_good n b =
          let d = block_ready room' n b in
          record {
            online = peek_online gap asks (numbered TBlock) true (strip_word words.If) rest_of (λ v. IsWord words.If) (word_fronts words.If) (block_at small (suc room) n b)
                (block_at large (suc room') n b) (chained_at small (suc room) n b) (chained_at large (suc room') n b) (block_online n b) (chained_online n b);
            ready = record { live = record { more = d.live.more; value = d.live.value; reads = λ rest h. rw (d.plain rest h).no_if (d.live.reads rest h) }; plain = d.plain };
          }

      else_good : (n b : ℕ) → Good gap asks (numbered TElse) true (else_at small (suc room) n b) (else_at large (suc room') n b)
      unfolding else_at
      else_good n b =
          optional gap asks (strip_word words.Else) rest_of (λ v. IsWord words.Else) (word_fronts words.Else) (λ v t p. tt) (λ ts h. h.no_else)
          (λ ts. Ok (no_else, n, b, ts)) (λ ts. Ok (no_else, n, b, ts)) (λ us. either small room n b us >>= λ t. Ok (else_do t.0, t.1, t.2, t.3))
          (λ us. either large room' n b us >>= λ t. Ok (else_do t.0, t.1, t.2, t.3))
          (given gap asks (no_else, n, b)) (λ v. fair gap asks (good_bind gap asks _ _ (either_good n b) (λ i. given gap asks (else_do i.0, i.1, i.2))))

      ifs_up : (c : TExpr) (n b : ℕ) → Mostly gap asks (numbered TKind) (if_rest small (suc room) c n b) (if_rest large (suc room') c n b)
      ifs_up c n b = mostly (good_bind gap asks _ _ (block_good n b) (λ t. good_bind gap asks _ _ (else_good t.1 t.2) (λ o. given gap asks (if_else c t.0 o.0, o.1, o.2))))

      loops_up : (f : TBlock → TKind) (n b : ℕ) → Mostly gap asks (numbered TKind) (loop_rest small (suc room) f n b) (loop_rest large (suc room') f n b)
      loops_up f n b = mostly (good_bind gap asks _ _ (block_good n b) (λ t. given gap asks (f t.0, t.1, t.2)))

      pub stmt_up : (n b k : ℕ) → Online gap asks (numbered TStmt) true k (stmt_at small (suc room) n b) (stmt_at large (suc room') n b)
      stmt_up = stmt_of (suc room) (suc room') ifs_up loops_up

    -- ---- no block may stand in the first reading

    module _ (curly_only : Positive (gap blocks_depth) ⊎ ((t : Lexeme) → asks t → is_curly t ≡ true)) where
      -- the `{` passes the depth
      none_online : (room : ℕ) → room ≡ gap blocks_depth → (n b k : ℕ) → Online gap asks (numbered TBlock) true k (block_at small 0 n b) (block_at large room n b)
      unfolding block_at
      none_online room e n b zero = far
      none_online zero e n b (suc k) =
          same gap asks
          (choose gap asks (numbered TBlock) true (strip_mark marks.OpenCurly) rest_of (λ v. IsMark marks.OpenCurly) (mark_fronts marks.OpenCurly)
          (λ ts. refuse ts) (λ ts. refuse ts) (λ us. too_deep blocks_depth us) (λ us. too_deep blocks_depth us) k (refused_at gap asks (numbered TBlock) true (suc k))
          (λ v t p. both_deep blocks_depth (rw p.1 curly) (λ z. subst Positive (sym e) z) (λ ts. refl) (λ ts. refl)))
          (block_at small 0 n b) (block_at large 0 n b) (λ ts. expect_bind marks.OpenCurly ts (λ us. too_deep blocks_depth us)) (λ ts. expect_bind marks.OpenCurly ts (λ us. too_deep blocks_depth us))
      none_online (suc room) e n b (suc k) =
          same gap asks
          (choose gap asks (numbered TBlock) true (strip_mark marks.OpenCurly) rest_of (λ v. IsMark marks.OpenCurly) (mark_fronts marks.OpenCurly)
          (λ ts. refuse ts) (λ ts. refuse ts) (λ us. too_deep blocks_depth us) (behind_curly room n b) k (refused_at gap asks (numbered TBlock) true (suc k))
          (λ v t p. one_deep blocks_depth (rw p.1 curly) (subst Positive e tt) (λ ts. refl) tt (λ a. behind_live room n b)))
          (block_at small 0 n b) (block_at large (suc room) n b) (λ ts. expect_bind marks.OpenCurly ts (λ us. too_deep blocks_depth us)) (λ ts. expect_bind marks.OpenCurly ts (behind_curly room n b))

      none_ready : (room : ℕ) → room ≡ gap blocks_depth → (n b : ℕ) (t : Lexeme) → asks t → is_curly t ≡ false → Ready false with_numbers (block_at large room n b)
      none_ready zero e n b t a c =
          elim curly_only [
            | inl p ↦ absurd (subst Positive (sym e) p)
            | inr h ↦ let k : false ≡ true = sym c ∙ h t a in absurd cc
          ]
      none_ready (suc room) e n b t a c = block_ready room n b

      none_mostly : {J H Z W : Type 0} (u : Shape J H Z W) (room : ℕ) → room ≡ gap blocks_depth
          → (n b : ℕ) (k : TBlock × ℕ × ℕ × Lexemes → Result Z Fault) (l : TBlock × ℕ × ℕ × Lexemes → Result W Fault)
          → ((i : TBlock × ℕ × ℕ) → Ready u.whole u.large (λ ts. l (with_numbers i ts))) → Mostly gap asks u (λ ts. block_at small 0 n b ts >>= k) (λ ts. block_at large room n b ts >>= l)
      none_mostly u room e n b k l d = record {
        online = λ j. cut gap asks with_numbers with_numbers (λ i. i) u true true k l (λ t h. h) (λ t a h i. d i) (none_online room e n b j) (λ ts x h. no_block_read small n b ts x h);
        ready = λ t a c. ready_bind u.whole with_numbers u.large (block_at large room n b) l (none_ready room e n b t a c) d;
      }

      stmt_base : (room : ℕ) → room ≡ gap blocks_depth → (n b k : ℕ) → Online gap asks (numbered TStmt) true k (stmt_at small 0 n b) (stmt_at large room n b)
      stmt_base room e = stmt_of 0 room
          (λ c n b. none_mostly (numbered TKind) room e n b _ _
          (λ i. ready_bind false with_numbers with_numbers (else_at large room i.1 i.2) _ (else_ready room i.1 i.2) (λ o. ready_given with_numbers (if_else c i.0 o.0, o.1, o.2))))
          (λ f n b. none_mostly (numbered TKind) room e n b _ _ (λ i. ready_given with_numbers (f i.0, i.1, i.2)))

      pub stmt_online : (r r' : ℕ) → Above (gap blocks_depth) r r' → (n b k : ℕ) → Online gap asks (numbered TStmt) true k (stmt_at small r n b) (stmt_at large r' n b)
      stmt_online _ _ base = stmt_base (gap blocks_depth) refl
      stmt_online _ _ (up {r = r} {q = r'} a) = stmt_up r r' (stmt_online r r' a)

      -- a block, and then what is given
      pub body_mostly : {J H Z W : Type 0} (u : Shape J H Z W) (r r' : ℕ) → Above (gap blocks_depth) r r'
          → (n b : ℕ) (k : TBlock × ℕ × ℕ × Lexemes → Result Z Fault) (l : TBlock × ℕ × ℕ × Lexemes → Result W Fault)
          → ((i : TBlock × ℕ × ℕ) → Good gap asks u true (λ ts. k (with_numbers i ts)) (λ ts. l (with_numbers i ts)))
          → Mostly gap asks u (λ ts. block_at small r n b ts >>= k) (λ ts. block_at large r' n b ts >>= l)
      body_mostly u _ _ base n b k l g = none_mostly u (gap blocks_depth) refl n b k l (λ i. (g i).ready)
      body_mostly u _ _ (up {r = r} {q = r'} a) n b k l g = mostly (good_bind gap asks _ _ (block_good r r' (stmt_online r r' a) n b) g)
