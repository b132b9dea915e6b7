-- Types, constants and statements without blocks, read together.
use Rattle.std.proofs.Common.{◌≡◌, ℕ, zero, suc, ℤ, pos, Bool, true, false, List, [], ◌∷◌, length, Option, Some, None, Ok, Err, refl, ◌⊎◌, inl, inr}
use Rattle.std.specs.Prelude.{unsigned_abs}
use Rattle.oc_tree.specs.Names.{Text}
use Rattle.oc_tree.specs.Tree.{TExpr, TArg, call, TRight, TKind, let_to, let_array, assign, assign_index, assign_deref, call_only, sense_only, emit, fresh, consistent, return}
use Rattle.oc_tree.specs.View.{args_of}
use Rattle.oc_tree.specs.declared.tree.ValueKind.{ValueKind}
use Rattle.oc_tree.specs.declared.tree.ValueKind.TheVariants as types
use Rattle.oc_lex.specs.declared.token.Word.TheVariants as words
use Rattle.oc_lex.specs.declared.token.Mark.TheVariants as marks
use Rattle.oc_grammar.specs.Limits.{Depth, Limits}
use Rattle.oc_grammar.specs.Lexemes.{Lexeme, Lexemes, named, numeral, keyword, sign}
use Rattle.oc_grammar.specs.Reading.{syntax_fault, ◌>>=◌, with_some, next_at, strip_mark, strip_word, expect_mark, number_at, take_word}
use Rattle.oc_grammar.specs.ReadingExpressions.{args_at, whole_at}
use Rattle.oc_grammar.specs.Statements.{opposite, right_of}
use Rattle.oc_grammar.specs.ReadingStatements.{array_at, type_from, type_at, const_at, right_at, note_at, fill_at, assign_at, element_to_at, target_at, call_at, sense_at, emit_at}
use Rattle.oc_grammar.specs.ReadingStatements.{fresh_at, consistent_at, return_at, bind_at, let_from, let_at, set_at, simple_from}
use Rattle.oc_grammar.proofs.Online.{Online, far, Step, refused}
use Rattle.oc_grammar.proofs.Together.{reads, rest_of, IsMark, IsWord, mark_fronts, word_fronts, Starting, plain_word, plain_number, Fair, Good, fair, given, good_same, good_bind}
use Rattle.oc_grammar.proofs.Together.{fair_bind, go, choose, optional, calm_word, with_some_apply, dispatch, word_good, name_good, number_good, open_round, close_round}
use Rattle.oc_grammar.proofs.Together.{close_square, semicolon, assign_mark, comma}

abbrev pub int_starts : Starting words.Int
int_starts = record { other_mutable = refl; other_else = refl; other_if = refl }

module _ (gap : Depth → ℕ) (asks : Lexeme → Type 0) where
  pub array_good : Good gap asks (reads ℕ) false array_at array_at
  unfolding array_at
  array_good =
      good_bind gap asks _ _ (word_good gap asks words.Int int_starts) (λ v.
      good_bind gap asks _ _ (semicolon gap asks) (λ w.
      good_bind gap asks _ _ (number_good gap asks) (λ n.
      good_bind gap asks _ _ (close_square gap asks) (λ z.
      given gap asks (unsigned_abs n)))))

  type_step : (n : ℕ) (t : Lexeme) → Step gap asks (reads ValueKind) false n t (type_from t) (type_from t)
  type_step n (keyword line words.Int) = go gap asks (fair gap asks (given gap asks types.Int)) refl
  type_step n (keyword line words.Bool) = go gap asks (fair gap asks (given gap asks types.Bool)) refl
  type_step n (sign line marks.OpenSquare) = go gap asks (fair gap asks (good_bind gap asks _ _ array_good (λ n. given gap asks (types.Array n)))) refl
  type_step n _ = refused (λ ts. refl) (λ ts. refl)

  pub type_good : Good gap asks (reads ValueKind) false type_at type_at
  unfolding type_at next_at
  type_good = record {
    online = dispatch gap asks type_from type_from type_step;
    ready = record { live = record { more = keyword 1 words.Int ∷ []; value = types.Int; reads = λ rest h. refl }; plain = λ rest h. plain_word 1 words.Int rest int_starts };
  }

  const_online : (n : ℕ) → Online gap asks (reads ℤ) false n const_at const_at
  unfolding const_at
  const_online zero = far
  const_online (suc n) =
      choose gap asks (reads ℤ) false (strip_mark marks.Minus) rest_of (λ v. IsMark marks.Minus) (mark_fronts marks.Minus) number_at number_at
      (λ us. number_at us >>= λ n. Ok (opposite n.0, n.1)) (λ us. number_at us >>= λ n. Ok (opposite n.0, n.1)) n
      ((number_good gap asks).online (suc n)) (λ v t p. go gap asks (fair gap asks (good_bind gap asks _ _ (number_good gap asks) (λ z. given gap asks (opposite z)))) (rw p.1 refl))

  pub const_good : Good gap asks (reads ℤ) false const_at const_at
  unfolding const_at strip_mark number_at
  const_good = record {
    online = const_online;
    ready =
        record { live = record { more = numeral 1 (pos 0) ∷ []; value = pos 0; reads = λ rest h. refl }; plain = λ rest h. plain_number 1 (pos 0) rest };
  }

  note_good : Good gap asks (reads (Option ValueKind)) false note_at note_at
  unfolding note_at
  note_good =
      optional gap asks (strip_mark marks.Colon) rest_of (λ v. IsMark marks.Colon) (mark_fronts marks.Colon) (λ v t p. rw p.1 refl) (λ ts h. h.no_colon)
      (λ ts. Ok (None, ts)) (λ ts. Ok (None, ts)) (λ us. type_at us >>= λ k. Ok (Some k.0, k.1)) (λ us. type_at us >>= λ k. Ok (Some k.0, k.1))
      (given gap asks None) (λ v. fair gap asks (good_bind gap asks _ _ type_good (λ k. given gap asks (Some k))))

  fill_good : (m : Bool) (x : Text) (k : Option ValueKind) → Good gap asks (reads TKind) false (fill_at m x k) (fill_at m x k)
  unfolding fill_at
  fill_good m x k =
      good_bind gap asks _ _ const_good (λ i.
      good_bind gap asks _ _ (semicolon gap asks) (λ v.
      good_bind gap asks _ _ (number_good gap asks) (λ n.
      good_bind gap asks _ _ (close_square gap asks) (λ w.
      good_bind gap asks _ _ (semicolon gap asks) (λ z.
      given gap asks (let_array m x k i (unsigned_abs n)))))))

  sense_fair : Fair gap asks (reads TKind) false sense_at sense_at
  unfolding sense_at
  sense_fair =
      fair_bind gap asks _ _ (open_round gap asks) (λ u.
      good_bind gap asks _ _ (name_good gap asks) (λ s.
      good_bind gap asks _ _ (close_round gap asks) (λ v.
      good_bind gap asks _ _ (semicolon gap asks) (λ w.
      given gap asks (sense_only s)))))

  fresh_fair : Fair gap asks (reads TKind) false fresh_at fresh_at
  unfolding fresh_at
  fresh_fair =
      fair_bind gap asks _ _ (open_round gap asks) (λ u.
      good_bind gap asks _ _ (name_good gap asks) (λ s.
      good_bind gap asks _ _ (close_round gap asks) (λ v.
      good_bind gap asks _ _ (semicolon gap asks) (λ w.
      given gap asks (fresh s)))))

  consistent_fair : Fair gap asks (reads TKind) false consistent_at consistent_at
  unfolding consistent_at
  consistent_fair =
      fair_bind gap asks _ _ (open_round gap asks) (λ u.
      good_bind gap asks _ _ (name_good gap asks) (λ s.
      good_bind gap asks _ _ (comma gap asks) (λ c.
      good_bind gap asks _ _ (number_good gap asks) (λ n.
      good_bind gap asks _ _ (close_round gap asks) (λ v.
      good_bind gap asks _ _ (semicolon gap asks) (λ w.
      given gap asks (consistent s n)))))))

  module _ (small large : Limits) (whole : Good gap asks (reads TExpr) false (whole_at small) (whole_at large))
      (args : Good gap asks (reads (List TArg)) false (args_at small small.brackets) (args_at large large.brackets)) where
    right_good : Good gap asks (reads TRight) false (right_at small) (right_at large)
    unfolding right_at
    right_good = good_bind gap asks _ _ whole (λ e. good_bind gap asks _ _ (semicolon gap asks) (λ v. given gap asks (right_of e)))

    assign_good : (x : Text) → Good gap asks (reads TKind) false (assign_at small x) (assign_at large x)
    unfolding assign_at
    assign_good x = good_bind gap asks _ _ right_good (λ r. given gap asks (assign x r))

    element_to_good : (x : Text) → Good gap asks (reads TKind) false (element_to_at small x) (element_to_at large x)
    unfolding element_to_at
    element_to_good x =
        good_bind gap asks _ _ whole (λ j.
        good_bind gap asks _ _ (close_square gap asks) (λ v.
        good_bind gap asks _ _ (assign_mark gap asks) (λ w.
        good_bind gap asks _ _ right_good (λ r.
        given gap asks (assign_index x j r)))))

    target_good : Good gap asks (reads TKind) false (target_at small) (target_at large)
    unfolding target_at
    target_good =
        good_bind gap asks _ _ (name_good gap asks) (λ x.
        good_bind gap asks _ _ (assign_mark gap asks) (λ w.
        good_bind gap asks _ _ right_good (λ r.
        given gap asks (assign_deref x r))))

    call_good : (f : Text) → Good gap asks (reads TKind) false (call_at small f) (call_at large f)
    unfolding call_at
    call_good f = good_bind gap asks _ _ args (λ q. good_bind gap asks _ _ (semicolon gap asks) (λ v. given gap asks (call_only (call f (args_of q)))))

    emit_fair : Fair gap asks (reads TKind) false (emit_at small) (emit_at large)
    unfolding emit_at
    emit_fair =
        fair_bind gap asks _ _ (open_round gap asks) (λ u.
        good_bind gap asks _ _ (name_good gap asks) (λ p.
        good_bind gap asks _ _ (comma gap asks) (λ c.
        good_bind gap asks _ _ whole (λ e.
        good_bind gap asks _ _ (close_round gap asks) (λ v.
        good_bind gap asks _ _ (semicolon gap asks) (λ w.
        given gap asks (emit p e)))))))

    return_good : Good gap asks (reads TKind) false (return_at small) (return_at large)
    unfolding return_at
    return_good = good_bind gap asks _ _ whole (λ e. good_bind gap asks _ _ (semicolon gap asks) (λ v. given gap asks (return e)))

    bind_good : (m : Bool) (x : Text) (k : Option ValueKind) → Good gap asks (reads TKind) false (bind_at small m x k) (bind_at large m x k)
    unfolding bind_at
    bind_good m x k =
        optional gap asks (strip_mark marks.OpenSquare) rest_of (λ v. IsMark marks.OpenSquare) (mark_fronts marks.OpenSquare) (λ v t p. rw p.1 refl) (λ ts h. h.no_square)
        (λ ts. right_at small ts >>= λ r. Ok (let_to m x k r.0, r.1)) (λ ts. right_at large ts >>= λ r. Ok (let_to m x k r.0, r.1)) (fill_at m x k) (fill_at m x k)
        (good_bind gap asks _ _ right_good (λ r. given gap asks (let_to m x k r))) (λ v. fair gap asks (fill_good m x k))

    let_from_good : (m : Bool) → Good gap asks (reads TKind) false (λ ts. let_from small (m, ts)) (λ ts. let_from large (m, ts))
    unfolding let_from
    let_from_good m =
        good_bind gap asks _ _ (name_good gap asks) (λ x.
        good_bind gap asks _ _ note_good (λ k.
        good_bind gap asks _ _ (assign_mark gap asks) (λ v.
        bind_good m x k)))

    let_good : Good gap asks (reads TKind) false (let_at small) (let_at large)
    unfolding let_at take_word
    let_good =
        good_same gap asks (let_at small) (let_at large)
        (λ ts. with_some_apply (let_from small) (strip_word words.Mutable ts) (false, ts) (λ us. (true, us)))
        (λ ts. with_some_apply (let_from large) (strip_word words.Mutable ts) (false, ts) (λ us. (true, us)))
        (optional gap asks (strip_word words.Mutable) rest_of (λ v. IsWord words.Mutable) (word_fronts words.Mutable) (λ v t p. calm_word gap asks words.Mutable t p) (λ ts h. h.no_mutable)
        (λ ts. let_from small (false, ts)) (λ ts. let_from large (false, ts)) (λ us. let_from small (true, us)) (λ us. let_from large (true, us)) (let_from_good false)
        (λ v. fair gap asks (let_from_good true)))

    set_good : (x : Text) → Good gap asks (reads TKind) false (set_at small x) (set_at large x)
    unfolding set_at
    set_good x =
        optional gap asks (strip_mark marks.OpenRound) rest_of (λ v. IsMark marks.OpenRound) (mark_fronts marks.OpenRound) (λ v t p. rw p.1 refl) (λ ts h. h.no_round)
        (λ ts. with_some (strip_mark marks.OpenSquare ts) (expect_mark marks.Assign ts >>= assign_at small x) (element_to_at small x))
        (λ ts. with_some (strip_mark marks.OpenSquare ts) (expect_mark marks.Assign ts >>= assign_at large x) (element_to_at large x)) (call_at small x) (call_at large x)
        (optional gap asks (strip_mark marks.OpenSquare) rest_of (λ v. IsMark marks.OpenSquare) (mark_fronts marks.OpenSquare) (λ v t p. rw p.1 refl) (λ ts h. h.no_square)
        (λ ts. expect_mark marks.Assign ts >>= assign_at small x) (λ ts. expect_mark marks.Assign ts >>= assign_at large x) (element_to_at small x) (element_to_at large x)
        (good_bind gap asks _ _ (assign_mark gap asks) (λ v. assign_good x)) (λ v. fair gap asks (element_to_good x)))
        (λ v. fair gap asks (call_good x))

    -- a statement without blocks goes on behind its first token, or both refuse it
    abbrev pub Simply : Lexeme → Type 0
    Simply t = Fair gap asks (reads TKind) false (simple_from small t) (simple_from large t) ⊎
        (((ts : Lexemes) → simple_from small t ts ≡ Err (syntax_fault (suc (length ts)))) × ((ts : Lexemes) → simple_from large t ts ≡ Err (syntax_fault (suc (length ts)))))

    pub simply : (t : Lexeme) → Simply t
    simply (keyword line words.Let) = inl (fair gap asks let_good)
    simply (named line x) = inl (fair gap asks (set_good x))
    simply (sign line marks.Star) = inl (fair gap asks target_good)
    simply (keyword line words.Sense) = inl sense_fair
    simply (keyword line words.Emit) = inl emit_fair
    simply (keyword line words.Fresh) = inl fresh_fair
    simply (keyword line words.Consistent) = inl consistent_fair
    simply (keyword line words.Return) = inl (fair gap asks return_good)
    simply _ = inr (λ ts. refl, λ ts. refl)
