-- Functions, declarations and programs, read together.
use Rattle.std.proofs.Common.{◌≡◌, ℕ, zero, suc, Bool, true, false, List, [], ◌∷◌, Option, Some, None, Ok, refl, sym, arith, ◌⊎◌}
use Rattle.oc_tree.specs.Names.{Text}
use Rattle.oc_tree.specs.Tree.{TExpr, TArg, TFunction, TProgram}
use Rattle.oc_tree.specs.declared.tree.Scalar.{Scalar}
use Rattle.oc_tree.specs.declared.tree.Scalar.TheVariants as scalars
use Rattle.oc_tree.specs.declared.tree.Passing.{Passing}
use Rattle.oc_tree.specs.declared.tree.Passing.TheVariants as passings
use Rattle.oc_tree.specs.declared.tree.Param.{Param}
use Rattle.oc_tree.specs.declared.tree.NvDecl.{NvDecl}
use Rattle.oc_lex.specs.declared.token.Word.TheVariants as words
use Rattle.oc_lex.specs.declared.token.Mark.TheVariants as marks
use Rattle.oc_grammar.specs.Limits.{Depth, blocks_depth, Limits}
use Rattle.oc_grammar.specs.Lexemes.{Lexeme, Lexemes, keyword, sign}
use Rattle.oc_grammar.specs.Reading.{◌>>=◌, next_at, strip_mark, strip_word, expect_mark, take_word}
use Rattle.oc_grammar.specs.ReadingExpressions.{args_at, whole_at}
use Rattle.oc_grammar.specs.Programs.{with_sensor, with_port, with_nv, with_function}
use Rattle.oc_grammar.specs.ReadingPrograms.{reference_to, passing_at, param_from, param_at, params_at, scalar_from, scalar_at, result_at, function_at, cells_from, cells_at, nv_at}
use Rattle.oc_grammar.specs.ReadingPrograms.{declared_at, item_by, item_at, items_by, items_at}
use Rattle.oc_grammar.proofs.ProgramLaws.{param_at_shorter}
use Rattle.oc_grammar.proofs.Turns.{item_at_shorter, next_items, items_end, items_go}
use Rattle.oc_grammar.proofs.Online.{Shape, shaped, Positive, is_curly, Ready, Online, far, near, Step, refused, taken, ends, same_step, step_of, bind, later, live_bind, ready_given}
use Rattle.oc_grammar.proofs.Together.{over, reads, rest_of, IsMark, IsWord, mark_fronts, word_fronts, plain_end, plain_word, Fair, Good, Mostly, fair, fair_wide, given, good_same}
use Rattle.oc_grammar.proofs.Together.{good_bind, fair_bind, mostly_bind, lately_bind, name_then, name_then_good, go, optional, calm_word, with_some_apply, dispatch, mark_fair}
use Rattle.oc_grammar.proofs.Together.{name_good, open_round, semicolon, assign_mark}
use Rattle.oc_grammar.proofs.TogetherLists.{list_good}
use Rattle.oc_grammar.proofs.TogetherExpressions.{Above}
use Rattle.oc_grammar.proofs.TogetherSimple.{int_starts, array_good, type_good, const_good}
use Rattle.oc_grammar.proofs.TogetherStatements.{numbered, with_numbers, body_mostly}

-- two programs that grow together
abbrev pub grown : Shape (TProgram × TProgram × ℕ × ℕ) (TProgram × ℕ × ℕ) (TProgram × ℕ × ℕ × Lexemes) (TProgram × ℕ × ℕ × Lexemes)
grown = shaped (λ i ts. (i.0, i.2, i.3, ts)) with_numbers (λ i. (i.1, i.2, i.3))

abbrev pub programs : Shape (TProgram × TProgram) TProgram TProgram TProgram
programs = record { small = λ i ts. i.0; large = λ p ts. p; kept = λ i. i.1; whole = true }

module _ (gap : Depth → ℕ) (asks : Lexeme → Type 0) where
  colon : Fair gap asks over false (expect_mark marks.Colon) (expect_mark marks.Colon)
  colon = mark_fair gap asks marks.Colon (λ line. refl)

  -- ---- parameters and results

  typed_good : (x : Text) (p : Passing) → Good gap asks (reads Param) false (λ ts. param_from x (p, ts)) (λ ts. param_from x (p, ts))
  typed_good x p = good_bind gap asks _ _ (type_good gap asks) (λ k. given gap asks (record { name = x; passing = p; kind = k }))

  referred_good : (x : Text) → Good gap asks (reads Param) false (λ us. param_from x (reference_to (take_word words.Mutable us))) (λ us. param_from x (reference_to (take_word words.Mutable us)))
  unfolding take_word
  referred_good x =
      good_same gap asks (λ us. param_from x (reference_to (take_word words.Mutable us))) (λ us. param_from x (reference_to (take_word words.Mutable us)))
      (λ ts. with_some_apply (λ m. param_from x (reference_to m)) (strip_word words.Mutable ts) (false, ts) (λ us. (true, us)))
      (λ ts. with_some_apply (λ m. param_from x (reference_to m)) (strip_word words.Mutable ts) (false, ts) (λ us. (true, us)))
      (optional gap asks (strip_word words.Mutable) rest_of (λ v. IsWord words.Mutable) (word_fronts words.Mutable) (λ v t p. calm_word gap asks words.Mutable t p) (λ ts h. h.no_mutable)
      (λ ts. param_from x (passings.Shared, ts)) (λ ts. param_from x (passings.Shared, ts)) (λ us. param_from x (passings.Mutable, us)) (λ us. param_from x (passings.Mutable, us))
      (typed_good x passings.Shared) (λ v. fair gap asks (typed_good x passings.Mutable)))

  passed_good : (x : Text) → Good gap asks (reads Param) false (λ us. param_from x (passing_at us)) (λ us. param_from x (passing_at us))
  unfolding passing_at
  passed_good x =
      good_same gap asks (λ us. param_from x (passing_at us)) (λ us. param_from x (passing_at us))
      (λ ts. with_some_apply (param_from x) (strip_mark marks.Ampersand ts) (passings.Value, ts) (λ us. reference_to (take_word words.Mutable us)))
      (λ ts. with_some_apply (param_from x) (strip_mark marks.Ampersand ts) (passings.Value, ts) (λ us. reference_to (take_word words.Mutable us)))
      (optional gap asks (strip_mark marks.Ampersand) rest_of (λ v. IsMark marks.Ampersand) (mark_fronts marks.Ampersand) (λ v t p. rw p.1 refl) (λ ts h. h.no_ampersand)
      (λ ts. param_from x (passings.Value, ts)) (λ ts. param_from x (passings.Value, ts)) (λ us. param_from x (reference_to (take_word words.Mutable us)))
      (λ us. param_from x (reference_to (take_word words.Mutable us))) (typed_good x passings.Value) (λ v. fair gap asks (referred_good x)))

  param_good : Good gap asks (reads Param) false param_at param_at
  unfolding param_at
  param_good = name_then_good gap asks (reads Param) _ _ (λ x. fair_bind gap asks _ _ colon (λ u. passed_good x))

  params_good : Good gap asks (reads (List Param)) false params_at params_at
  unfolding params_at
  params_good = list_good gap asks param_at param_at param_at_shorter param_at_shorter param_good

  scalar_step : (n : ℕ) (t : Lexeme) → Step gap asks (reads Scalar) false n t (scalar_from t) (scalar_from t)
  scalar_step n (keyword line words.Int) = go gap asks (fair gap asks (given gap asks scalars.Int)) refl
  scalar_step n (keyword line words.Bool) = go gap asks (fair gap asks (given gap asks scalars.Bool)) refl
  scalar_step n _ = refused (λ ts. refl) (λ ts. refl)

  scalar_good : Good gap asks (reads Scalar) false scalar_at scalar_at
  unfolding scalar_at next_at
  scalar_good = record {
    online = dispatch gap asks scalar_from scalar_from scalar_step;
    ready = record { live = record { more = keyword 1 words.Int ∷ []; value = scalars.Int; reads = λ rest h. refl }; plain = λ rest h. plain_word 1 words.Int rest int_starts };
  }

  result_good : Good gap asks (reads (Option Scalar)) false result_at result_at
  unfolding result_at
  result_good =
      optional gap asks (strip_mark marks.Arrow) rest_of (λ v. IsMark marks.Arrow) (mark_fronts marks.Arrow) (λ v t p. rw p.1 refl) (λ ts h. h.no_arrow)
      (λ ts. Ok (None, ts)) (λ ts. Ok (None, ts)) (λ us. scalar_at us >>= λ s. Ok (Some s.0, s.1)) (λ us. scalar_at us >>= λ s. Ok (Some s.0, s.1))
      (given gap asks None) (λ v. fair gap asks (good_bind gap asks _ _ scalar_good (λ s. given gap asks (Some s))))

  -- ---- declarations

  cells_step : (n : ℕ) (t : Lexeme) → Step gap asks (reads (ℕ × Bool)) false n t (cells_from t) (cells_from t)
  cells_step n (keyword line words.Int) = go gap asks (fair gap asks (given gap asks (1, false))) refl
  cells_step n (sign line marks.OpenSquare) = go gap asks (fair gap asks (good_bind gap asks _ _ (array_good gap asks) (λ n. given gap asks (n, true)))) refl
  cells_step n _ = refused (λ ts. refl) (λ ts. refl)

  cells_good : Good gap asks (reads (ℕ × Bool)) false cells_at cells_at
  unfolding cells_at next_at
  cells_good = record {
    online = dispatch gap asks cells_from cells_from cells_step;
    ready = record { live = record { more = keyword 1 words.Int ∷ []; value = (1, false); reads = λ rest h. refl }; plain = λ rest h. plain_word 1 words.Int rest int_starts };
  }

  nv_good : Good gap asks (reads (Text × NvDecl)) false nv_at nv_at
  unfolding nv_at
  nv_good =
      name_then_good gap asks (reads (Text × NvDecl)) _ _ (λ x.
      fair_bind gap asks _ _ colon (λ u.
      good_bind gap asks _ _ cells_good (λ c.
      good_bind gap asks _ _ (assign_mark gap asks) (λ v.
      good_bind gap asks _ _ (const_good gap asks) (λ i.
      good_bind gap asks _ _ (semicolon gap asks) (λ w.
      given gap asks (x, record { words = c.0; array = c.1; initial = i })))))))

  declared_good : Good gap asks (reads Text) false declared_at declared_at
  unfolding declared_at
  declared_good = good_bind gap asks _ _ (name_good gap asks) (λ x. good_bind gap asks _ _ (semicolon gap asks) (λ v. given gap asks x))

  -- ---- functions and programs

  module _ (small large : Limits) (whole : Good gap asks (reads TExpr) false (whole_at small) (whole_at large))
      (args : Good gap asks (reads (List TArg)) false (args_at small small.brackets) (args_at large large.brackets))
      (curly_only : Positive (gap blocks_depth) ⊎ ((t : Lexeme) → asks t → is_curly t ≡ true)) (blocks : Above (gap blocks_depth) small.blocks large.blocks) where
    function_mostly : (line n b : ℕ) → Mostly gap asks (numbered TFunction) (function_at small line n b) (function_at large line n b)
    unfolding function_at
    function_mostly line n b =
        name_then gap asks (numbered TFunction) _ _ (λ f.
        lately_bind gap asks _ _ (open_round gap asks) (λ u.
        mostly_bind gap asks _ _ params_good (λ ps.
        mostly_bind gap asks _ _ result_good (λ r.
        body_mostly gap asks small large whole args curly_only (numbered TFunction) small.blocks large.blocks blocks n b _ _
        (λ t. given gap asks (record { name = f; line = line; params = ps; result = r; body = t.0 }, t.1, t.2))))))

    item_step : (p p' : TProgram) (n b k : ℕ) (t : Lexeme) → Step gap asks grown true k t (item_by small p t n b) (item_by large p' t n b)
    item_step p p' n b k (keyword line words.Sensor) =
        go gap asks (fair_wide gap asks (fair gap asks (good_bind gap asks _ _ declared_good (λ x. given gap asks (with_sensor line x p, with_sensor line x p', n, b))))) tt
    item_step p p' n b k (keyword line words.Port) =
        go gap asks (fair_wide gap asks (fair gap asks (good_bind gap asks _ _ declared_good (λ x. given gap asks (with_port line x p, with_port line x p', n, b))))) tt
    item_step p p' n b k (keyword line words.Nonvolatile) =
        go gap asks (fair_wide gap asks (fair gap asks (good_bind gap asks _ _ nv_good (λ x. given gap asks (with_nv line x.0 x.1 p, with_nv line x.0 x.1 p', n, b))))) tt
    item_step p p' n b k (keyword line words.Function) =
        taken
        (bind gap asks with_numbers with_numbers (λ i. i) grown true true _ _ (λ t e. e) (λ t a e f. ready_given with_numbers (with_function f.0 p', f.1, f.2))
        ((function_mostly line n b).online k) (λ f. (given gap asks (with_function f.0 p, with_function f.0 p', f.1, f.2)).online k)) tt
        (λ a. live_bind false with_numbers with_numbers (function_at large line n b) _ ((function_mostly line n b).ready (keyword line words.Function) a refl).live
        (λ f. ready_given with_numbers (with_function f.0 p', f.1, f.2)))
    item_step p p' n b k _ = refused (λ ts. refl) (λ ts. refl)

    item_online : (p p' : TProgram) (n b k : ℕ) → Online gap asks grown true k (item_at small p n b) (item_at large p' n b)
    unfolding item_at
    item_online p p' n b k = dispatch gap asks (λ t. item_by small p t n b) (λ t. item_by large p' t n b) (item_step p p' n b) k

    items_ready : (i : TProgram × ℕ × ℕ) → Ready true (λ p ts. p) (λ ts. items_at large i.0 i.1 i.2 ts)
    unfolding items_by items_at
    items_ready i = record { live = record { more = []; value = i.0; reads = λ rest e. rw e refl }; plain = λ rest e. rw e plain_end }

    pub items_online : (k : ℕ) (p p' : TProgram) (n b : ℕ) → Online gap asks programs true k (items_at small p n b) (items_at large p' n b)
    items_online zero p p' n b = far
    items_online (suc k) p p' n b =
        near (ends (p, p') (items_end small p n b) (items_end large p' n b)) (λ t.
        same_step gap asks
        (step_of gap asks (later gap asks (λ i ts. (i.0, i.2, i.3, ts)) with_numbers (λ i. (i.1, i.2, i.3)) programs true true (next_items small) (next_items large) (λ t e. e)
        (λ t a e i. items_ready i) (item_online p p' n b (suc k)) (λ i ts e. let h = item_at_shorter small p n b ts (i.0, i.2, i.3, ts) e in omega arith) (λ i. items_online k i.0 i.1 i.2 i.3)) t)
        (λ ts. items_at small p n b (t ∷ ts)) (λ ts. items_at large p' n b (t ∷ ts)) (λ ts. sym (items_go small p n b t ts)) (λ ts. sym (items_go large p' n b t ts)))
