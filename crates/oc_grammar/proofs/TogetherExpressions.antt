-- Expressions, read together.
use Rattle.std.proofs.Common.{◌≡◌, ℕ, zero, suc, pos, Bool, true, false, List, [], ◌∷◌, length, Option, Some, None, Ok, refl, sym, ap, subst, arith, inl, inr, ◌⊎◌}
use Rattle.oc_tree.specs.Names.{Text}
use Rattle.oc_tree.specs.Tree.{TExpr, number, truth, variable, index, deref, unary, binary, sensed, called, TArg, value, call}
use Rattle.oc_tree.specs.View.{args_of}
use Rattle.oc_tree.specs.declared.tree.UnaryOp.{UnaryOp}
use Rattle.oc_tree.specs.declared.tree.UnaryOp.TheVariants as prefixes
use Rattle.oc_tree.specs.declared.tree.BinaryOp.{BinaryOp}
use Rattle.oc_lex.specs.declared.token.Word.TheVariants as words
use Rattle.oc_lex.specs.declared.token.Mark.{Mark}
use Rattle.oc_lex.specs.declared.token.Mark.TheVariants as marks
use Rattle.oc_grammar.specs.Limits.{Limits, Depth, brackets_depth, operators_depth}
use Rattle.oc_grammar.specs.Lexemes.{Lexeme, Lexemes, named, numeral, keyword, sign}
use Rattle.oc_grammar.specs.Fronts.{infix_of}
use Rattle.oc_grammar.specs.Depths.{round, square, before_minus, before_not, between}
use Rattle.oc_grammar.specs.Reading.{◌>>=◌, with_some, refuse, strip_mark, strip_word, expect_mark, name_at, take_word, operator_of, operator_front, listed_by}
use Rattle.oc_grammar.specs.ReadingExpressions.{ReadExpr, spend_at, chain, most, levels, unary_by, prefix_by, parens_by, element_by, result_by, named_by, input_by, whole_by}
use Rattle.oc_grammar.specs.ReadingExpressions.{reference, reference_by, arg_by, sensor_at, unary_at, level_at, part_at, whole_at, prefixed_at, inner_at, args_at, inner_args_at}
use Rattle.oc_grammar.specs.ReadingExpressions.{inner_sensor_at, unary_here}
use Rattle.oc_grammar.proofs.FrontLaws.{bind_same, with_some_same, at_level_some, front_ok, infix_shorter}
use Rattle.oc_grammar.proofs.UnaryLaws.{unary_is}
use Rattle.oc_grammar.proofs.ExpressionLaws.{is_three, most_other, arg_shorter}
use Rattle.oc_grammar.proofs.ExpressionsRead.{ShortensExpr, level_shorter, chain_enough, chain_stopped, unary_literal}
use Rattle.oc_grammar.proofs.Online.{Shape, shaped, Positive, is_curly, Live, Ready, live_bind, ready_bind, ready_given, Online, far, Step, refused, taken, same, bind}
use Rattle.oc_grammar.proofs.Together.{reads, rest_of, IsMark, IsWord, AtFront, Fronts, mark_fronts, word_fronts, Fair, Good, fair, given, good_same, good_bind, go, choose}
use Rattle.oc_grammar.proofs.Together.{optional, calm_word, with_some_apply, dispatch, refused_at, close_round, close_square, name_good, plain_number, Opened, opened, deep_both}
use Rattle.oc_grammar.proofs.Together.{deep_one, opened_step, opened_into}
use Rattle.oc_grammar.proofs.TogetherLists.{list_good}

-- what the second may still use is so much more
pub data Above (d : ℕ) : ℕ → ℕ → Type 0 where
  base : Above d 0 d
  up : {r q : ℕ} → Above d r q → Above d (suc r) (suc q)

-- ---- operators of one level

pub chain_go : (level : ℕ) (part : ℕ → Lexemes → ReadExpr) → ShortensExpr part → (e : TExpr) (n : ℕ) (ts : Lexemes)
    → chain level part (length ts) e n ts ≡ with_some (operator_front level ts) (Ok (e, n, ts))
    (λ o. spend_at n o.1 >>= λ m. part m o.1 >>= λ x. chain level part (length x.2) (binary o.0 e x.0) x.1 x.2)
unfolding chain operator_front
chain_go level part short e n [] = refl
chain_go level part short e n (t ∷ ts) =
    with_some_same (operator_front level (t ∷ ts)) _ _ _ _ (λ _. refl) (λ o f.
    let l = infix_shorter (front_ok level (t ∷ ts) o f) in
    bind_same (spend_at n o.1) _ _ (λ m _.
    bind_same (part m o.1) _ _ (λ x p.
    let s = short m o.1 x p in
    chain_enough level part short (length ts) (length x.2) (binary o.0 e x.0) x.1 x.2 (omega arith) (omega arith))))

chain_once : (level : ℕ) (part : ℕ → Lexemes → ReadExpr) (e : TExpr) (n : ℕ) (ts : Lexemes)
    → chain level part 1 e n ts ≡ with_some (operator_front level ts) (Ok (e, n, ts)) (λ o. spend_at n o.1 >>= λ m. part m o.1 >>= λ x. Ok (binary o.0 e x.0, x.1, x.2))
unfolding chain
chain_once level part e n ts = refl

abbrev pub put_operator : BinaryOp → Lexemes → BinaryOp × Lexemes
put_operator op ts = (op, ts)

pub operator_fronts : (level : ℕ) → Fronts (operator_front level) put_operator (λ op t. infix_of t ≡ Some (op, level))
unfolding operator_front
operator_fronts level = record { nothing = refl; each = λ t. by_operator t (operator_of level t) refl }
  where
    by_operator : (t : Lexeme) (o : Option BinaryOp) → operator_of level t ≡ o → AtFront (operator_front level) put_operator (λ op u. infix_of u ≡ Some (op, level)) t
    by_operator t None e = inr (λ ts. rw e refl)
    by_operator t (Some op) e = inl (op, at_level_some level (infix_of t) op e, λ ts. rw e refl)

calm_operator : (t : Lexeme) (x : BinaryOp × ℕ) → infix_of t ≡ Some x → is_curly t ≡ false
calm_operator (sign line marks.OpenCurly) x e = absurd cc
calm_operator _ x e = refl

most_three : (level : ℕ) (ts : Lexemes) → level ≡ 3 → most level ts ≡ 1
most_three level ts k = rw k refl

module _ (gap : Depth → ℕ) (asks : Lexeme → Type 0) where
  -- an expression, with how many more operators it may have in the first and in the second reading
  pub record Spent : Type 0 where
    pub tree : TExpr
    pub few : ℕ
    pub many : ℕ
    pub above : Above (gap operators_depth) few many

  abbrev pub small_expr : Spent → Lexemes → TExpr × ℕ × Lexemes
  small_expr i ts = (i.tree, i.few, ts)

  abbrev pub large_expr : TExpr × ℕ → Lexemes → TExpr × ℕ × Lexemes
  large_expr i ts = (i.0, i.1, ts)

  abbrev pub kept_expr : Spent → TExpr × ℕ
  kept_expr i = (i.tree, i.many)

  abbrev pub expr : Shape Spent (TExpr × ℕ) (TExpr × ℕ × Lexemes) (TExpr × ℕ × Lexemes)
  expr = shaped small_expr large_expr kept_expr

  -- ---- what completes an expression

  chain_ready : (level : ℕ) (part : ℕ → Lexemes → ReadExpr) (turns : Lexemes → ℕ) (e : TExpr) (m : ℕ) → Ready false large_expr (λ ts. chain level part (turns ts) e m ts)
  chain_ready level part turns e m = record { live = record { more = []; value = (e, m); reads = λ rest h. chain_stopped level part (turns rest) e m rest (h.no_operator level) }; plain = λ rest h. h }

  unary_ready : (limits : Limits) (room m : ℕ) → Ready false large_expr (unary_at limits room m)
  unary_ready limits room m = record {
    live =
        record { more = numeral 1 (pos 0) ∷ []; value = (number (pos 0), m); reads = λ rest h. unary_literal limits room m 1 (pos 0) rest };
    plain = λ rest h. plain_number 1 (pos 0) rest;
  }

  pub level_ready : (limits : Limits) (level room m : ℕ) → Ready false large_expr (level_at limits level room m)
  unfolding levels
  level_ready limits zero room m = unary_ready limits room m
  level_ready limits (suc level) room m = ready_bind false large_expr large_expr (level_at limits level room m) _ (level_ready limits level room m)
      (λ i. chain_ready (suc level) (level_at limits level room) (most (suc level)) i.0 i.1)

  -- ---- an operator and what is behind it

  -- what follows it
  abbrev Then : ℕ → (TExpr × ℕ × Lexemes → ReadExpr) → (TExpr × ℕ × Lexemes → ReadExpr) → Type 0
  Then n next next' = ((i : Spent) → Online gap asks expr false n (λ ts. next (small_expr i ts)) (λ ts. next' (large_expr (kept_expr i) ts))) ×
      ((i : TExpr × ℕ) → Ready false large_expr (λ ts. next' (large_expr i ts)))

  module _ (level : ℕ) (part part' : ℕ → Lexemes → ReadExpr) (online : (m m' : ℕ) → Above (gap operators_depth) m m' → (n : ℕ) → Online gap asks expr false n (part m) (part' m'))
      (ready : (m : ℕ) → Ready false large_expr (part' m)) where
    operate_base : (k n : ℕ) → k ≡ gap operators_depth → (next next' : TExpr × ℕ × Lexemes → ReadExpr) → Then n next next'
        → Opened gap asks operators_depth expr n (λ ts. spend_at 0 ts >>= λ j. part j ts >>= next) (λ ts. spend_at k ts >>= λ j. part' j ts >>= next')
    unfolding spend_at
    operate_base zero n e next next' h = deep_both (λ z. subst Positive (sym e) z) (λ ts. refl) (λ ts. refl)
    operate_base (suc k) n e next next' h = deep_one (subst Positive e tt) (λ ts. refl) (live_bind false large_expr large_expr (part' k) next' (ready k).live h.1)

    operate : (n m m' : ℕ) → Above (gap operators_depth) m m' → (next next' : TExpr × ℕ × Lexemes → ReadExpr) → Then n next next'
        → Opened gap asks operators_depth expr n (λ ts. spend_at m ts >>= λ k. part k ts >>= next) (λ ts. spend_at m' ts >>= λ k. part' k ts >>= next')
    unfolding spend_at
    operate n _ _ base next next' h = operate_base (gap operators_depth) n refl next next' h
    operate n _ _ (up {r = m} {q = m'} a) next next' h =
        opened (bind gap asks small_expr large_expr kept_expr expr false false next next' (λ t e. e) (λ t z e i. h.1 i) (online m m' a n) h.0)
        (live_bind false large_expr large_expr (part' m') next' (ready m').live h.1)

    abbrev joined : BinaryOp → Spent → Spent → Spent
    joined op i j = record { tree = binary op i.tree j.tree; few = j.few; many = j.many; above = j.above }

    chain_online : ShortensExpr part → ShortensExpr part' → (n : ℕ) (i : Spent)
        → Online gap asks expr false n (λ ts. chain level part (length ts) i.tree i.few ts) (λ ts. chain level part' (length ts) i.tree i.many ts)
    chain_online short short' zero i = far
    chain_online short short' (suc n) i =
        same gap asks
        (choose gap asks expr false (operator_front level) put_operator (λ op t. infix_of t ≡ Some (op, level)) (operator_fronts level)
        (λ ts. Ok (i.tree, i.few, ts)) (λ ts. Ok (i.tree, i.many, ts))
        (λ o. spend_at i.few o.1 >>= λ m. part m o.1 >>= λ x. chain level part (length x.2) (binary o.0 i.tree x.0) x.1 x.2)
        (λ o. spend_at i.many o.1 >>= λ m. part' m o.1 >>= λ x. chain level part' (length x.2) (binary o.0 i.tree x.0) x.1 x.2) n
        ((given gap asks i).online (suc n))
        (λ op t p. opened_step gap asks (operate n i.few i.many i.above (λ x. chain level part (length x.2) (binary op i.tree x.0) x.1 x.2)
        (λ x. chain level part' (length x.2) (binary op i.tree x.0) x.1 x.2)
        (λ j. chain_online short short' n (joined op i j), λ j. chain_ready level part' length (binary op i.tree j.0) j.1)) (between p) (calm_operator t (op, level) p)))
        (λ ts. chain level part (length ts) i.tree i.few ts) (λ ts. chain level part' (length ts) i.tree i.many ts)
        (λ ts. sym (chain_go level part short i.tree i.few ts)) (λ ts. sym (chain_go level part' short' i.tree i.many ts))

    once_online : (n : ℕ) (i : Spent) → Online gap asks expr false n (λ ts. chain level part 1 i.tree i.few ts) (λ ts. chain level part' 1 i.tree i.many ts)
    once_online zero i = far
    once_online (suc n) i =
        same gap asks
        (choose gap asks expr false (operator_front level) put_operator (λ op t. infix_of t ≡ Some (op, level)) (operator_fronts level)
        (λ ts. Ok (i.tree, i.few, ts)) (λ ts. Ok (i.tree, i.many, ts))
        (λ o. spend_at i.few o.1 >>= λ m. part m o.1 >>= λ x. Ok (binary o.0 i.tree x.0, x.1, x.2))
        (λ o. spend_at i.many o.1 >>= λ m. part' m o.1 >>= λ x. Ok (binary o.0 i.tree x.0, x.1, x.2)) n
        ((given gap asks i).online (suc n))
        (λ op t p. opened_step gap asks (operate n i.few i.many i.above (λ x. Ok (binary op i.tree x.0, x.1, x.2)) (λ x. Ok (binary op i.tree x.0, x.1, x.2))
        (λ j. (given gap asks (joined op i j)).online n, λ j. ready_given large_expr (binary op i.tree j.0, j.1))) (between p) (calm_operator t (op, level) p)))
        (λ ts. chain level part 1 i.tree i.few ts) (λ ts. chain level part' 1 i.tree i.many ts)
        (λ ts. sym (chain_once level part i.tree i.few ts)) (λ ts. sym (chain_once level part' i.tree i.many ts))

  -- ---- all levels

  module _ (small large : Limits) (room room' : ℕ)
      (lowest : (m m' : ℕ) → Above (gap operators_depth) m m' → (n : ℕ) → Online gap asks expr false n (unary_at small room m) (unary_at large room' m')) where
    rest_online : (level : ℕ) → ((m m' : ℕ) → Above (gap operators_depth) m m' → (n : ℕ)
        → Online gap asks expr false n (level_at small level room m) (level_at large level room' m')) → (n : ℕ) (i : Spent)
        → Online gap asks expr false n (λ ts. chain (suc level) (level_at small level room) (most (suc level) ts) i.tree i.few ts)
        (λ ts. chain (suc level) (level_at large level room') (most (suc level) ts) i.tree i.many ts)
    rest_online level online n i =
        elim (is_three (suc level)) [
          | inl k ↦
              same gap asks (once_online (suc level) (level_at small level room) (level_at large level room') online (level_ready large level room') n i)
              (λ ts. chain (suc level) (level_at small level room) (most (suc level) ts) i.tree i.few ts) (λ ts. chain (suc level) (level_at large level room') (most (suc level) ts) i.tree i.many ts)
              (λ ts. ap (λ (c : ℕ). chain (suc level) (level_at small level room) c i.tree i.few ts) (sym (most_three (suc level) ts k)))
              (λ ts. ap (λ (c : ℕ). chain (suc level) (level_at large level room') c i.tree i.many ts) (sym (most_three (suc level) ts k)))
          | inr ne ↦
              same gap asks (chain_online (suc level) (level_at small level room) (level_at large level room') online (level_ready large level room')
              (level_shorter small room level) (level_shorter large room' level) n i)
              (λ ts. chain (suc level) (level_at small level room) (most (suc level) ts) i.tree i.few ts) (λ ts. chain (suc level) (level_at large level room') (most (suc level) ts) i.tree i.many ts)
              (λ ts. ap (λ (c : ℕ). chain (suc level) (level_at small level room) c i.tree i.few ts) (sym (most_other (suc level) ts ne)))
              (λ ts. ap (λ (c : ℕ). chain (suc level) (level_at large level room') c i.tree i.many ts) (sym (most_other (suc level) ts ne)))
        ]

    pub level_online : (level m m' : ℕ) → Above (gap operators_depth) m m' → (n : ℕ) → Online gap asks expr false n (level_at small level room m) (level_at large level room' m')
    unfolding levels
    level_online zero m m' a n = lowest m m' a n
    level_online (suc level) m m' a n =
        bind gap asks small_expr large_expr kept_expr expr false false
        (λ x. chain (suc level) (level_at small level room) (most (suc level) x.2) x.0 x.1 x.2) (λ x. chain (suc level) (level_at large level room') (most (suc level) x.2) x.0 x.1 x.2)
        (λ t e. e) (λ t z e i. chain_ready (suc level) (level_at large level room') (most (suc level)) i.0 i.1) (level_online level m m' a n) (rest_online level (level_online level) n)

  -- ---- one unary, where what is behind its token is given

  module _ (small large : Limits) (room room' m m' : ℕ) (above : Above (gap operators_depth) m m')
      (prefixed : (n : ℕ) → Opened gap asks brackets_depth expr n (prefixed_at small room m) (prefixed_at large room' m'))
      (inner : (n : ℕ) → Opened gap asks brackets_depth expr n (inner_at small room m) (inner_at large room' m'))
      (args : (n : ℕ) → Opened gap asks brackets_depth (reads (List TArg)) n (inner_args_at small room) (inner_args_at large room'))
      (sensor : (n : ℕ) → Opened gap asks brackets_depth (reads Text) n (inner_sensor_at room) (inner_sensor_at room'))
      (senses : (line : ℕ) → asks (keyword line words.Sense) → Live false large_expr (input_by (inner_sensor_at room') m')) where
    abbrev kept : TExpr → Spent
    kept e = record { tree = e; few = m; many = m'; above = above }

    calm : (k : Mark) (t : Lexeme) → ((line : ℕ) → is_curly (sign line k) ≡ false) → IsMark k t → is_curly t ≡ false
    calm k t c p = rw p.1 (c p.0)

    element_opened : (x : Text) (n : ℕ) → Opened gap asks brackets_depth expr n (element_by (inner_at small room) x m) (element_by (inner_at large room') x m')
    element_opened x n = opened_into gap asks brackets_depth small_expr large_expr kept_expr expr n _ _ (inner n)
        (λ i. (good_bind gap asks _ _ (close_square gap asks) (λ v. given gap asks (record { tree = index x i.tree; few = i.few; many = i.many; above = i.above }))).online n)
        (λ i. ready_bind false rest_of large_expr (expect_mark marks.CloseSquare) _ (close_square gap asks).ready (λ v. ready_given large_expr (index x i.0, i.1)))

    parens_opened : (n : ℕ) → Opened gap asks brackets_depth expr n (parens_by (inner_at small room) m) (parens_by (inner_at large room') m')
    parens_opened n = opened_into gap asks brackets_depth small_expr large_expr kept_expr expr n _ _ (inner n)
        (λ i. (good_bind gap asks _ _ (close_round gap asks) (λ v. given gap asks i)).online n)
        (λ i. ready_bind false rest_of large_expr (expect_mark marks.CloseRound) _ (close_round gap asks).ready (λ v. ready_given large_expr (i.0, i.1)))

    prefix_opened : (op : UnaryOp) (n : ℕ) → Opened gap asks brackets_depth expr n (prefix_by (prefixed_at small room) op m) (prefix_by (prefixed_at large room') op m')
    prefix_opened op n = opened_into gap asks brackets_depth small_expr large_expr kept_expr expr n _ _ (prefixed n)
        (λ i. (given gap asks (record { tree = unary op i.tree; few = i.few; many = i.many; above = i.above })).online n)
        (λ i. ready_given large_expr (unary op i.0, i.1))

    result_opened : (f : Text) (n : ℕ) → Opened gap asks brackets_depth expr n (result_by (inner_args_at small room) f m) (result_by (inner_args_at large room') f m')
    result_opened f n = opened_into gap asks brackets_depth (λ a ts. (a, ts)) (λ a ts. (a, ts)) (λ i. i) expr n _ _ (args n)
        (λ i. (given gap asks (kept (called (call f (args_of i))))).online n)
        (λ i. ready_given large_expr (called (call f (args_of i)), m'))

    named_online : (x : Text) (n : ℕ) → Online gap asks expr false n (named_by (inner_at small room) (inner_args_at small room) x m) (named_by (inner_at large room') (inner_args_at large room') x m')
    named_online x zero = far
    named_online x (suc n) =
        choose gap asks expr false (strip_mark marks.OpenRound) rest_of (λ v. IsMark marks.OpenRound) (mark_fronts marks.OpenRound)
        (λ ts. with_some (strip_mark marks.OpenSquare ts) (Ok (variable x, m, ts)) (element_by (inner_at small room) x m))
        (λ ts. with_some (strip_mark marks.OpenSquare ts) (Ok (variable x, m', ts)) (element_by (inner_at large room') x m'))
        (result_by (inner_args_at small room) x m) (result_by (inner_args_at large room') x m') n
        (choose gap asks expr false (strip_mark marks.OpenSquare) rest_of (λ v. IsMark marks.OpenSquare) (mark_fronts marks.OpenSquare)
        (λ ts. Ok (variable x, m, ts)) (λ ts. Ok (variable x, m', ts)) (element_by (inner_at small room) x m) (element_by (inner_at large room') x m') n
        ((given gap asks (kept (variable x))).online (suc n))
        (λ v t p. opened_step gap asks (element_opened x n) (rw p.1 square) (calm marks.OpenSquare t (λ line. refl) p)))
        (λ v t p. opened_step gap asks (result_opened x n) (rw p.1 round) (calm marks.OpenRound t (λ line. refl) p))

    named_live : (x : Text) → Live false large_expr (named_by (inner_at large room') (inner_args_at large room') x m')
    named_live x = record { more = []; value = (variable x, m'); reads = λ rest h. rw (h.no_round, h.no_square) refl }

    input_online : (n : ℕ) → Online gap asks expr false n (input_by (inner_sensor_at room) m) (input_by (inner_sensor_at room') m')
    unfolding expect_mark
    input_online zero = far
    input_online (suc n) =
        same gap asks
        (choose gap asks expr false (strip_mark marks.OpenRound) rest_of (λ v. IsMark marks.OpenRound) (mark_fronts marks.OpenRound)
        (λ ts. refuse ts) (λ ts. refuse ts) (λ us. inner_sensor_at room us >>= λ x. Ok (sensed x.0, m, x.1)) (λ us. inner_sensor_at room' us >>= λ x. Ok (sensed x.0, m', x.1)) n
        (refused_at gap asks expr false (suc n))
        (λ v t p. opened_step gap asks (opened_into gap asks brackets_depth (λ a ts. (a, ts)) (λ a ts. (a, ts)) (λ i. i) expr n _ _ (sensor n)
        (λ i. (given gap asks (kept (sensed i))).online n) (λ i. ready_given large_expr (sensed i, m'))) (rw p.1 round) (calm marks.OpenRound t (λ line. refl) p)))
        (input_by (inner_sensor_at room) m) (input_by (inner_sensor_at room') m')
        (λ ts. by_front (strip_mark marks.OpenRound ts) ts (λ us. inner_sensor_at room us >>= λ x. Ok (sensed x.0, m, x.1)))
        (λ ts. by_front (strip_mark marks.OpenRound ts) ts (λ us. inner_sensor_at room' us >>= λ x. Ok (sensed x.0, m', x.1)))
      where
        by_front : (o : Option Lexemes) (ts : Lexemes) (k : Lexemes → ReadExpr) → with_some o (refuse ts) k ≡ (with_some o (refuse ts) (λ us. Ok us) >>= k)
        by_front None ts k = refl
        by_front (Some us) ts k = refl

    target_fair : Fair gap asks expr false (λ ts. name_at ts >>= λ x. Ok (deref x.0, m, x.1)) (λ ts. name_at ts >>= λ x. Ok (deref x.0, m', x.1))
    target_fair = fair gap asks (good_bind gap asks _ _ (name_good gap asks) (λ x. given gap asks (kept (deref x))))

    unary_step : (n : ℕ) (t : Lexeme) → Step gap asks expr false n t (unary_by (prefixed_at small room) (inner_at small room) (inner_args_at small room) (inner_sensor_at room) t m)
        (unary_by (prefixed_at large room') (inner_at large room') (inner_args_at large room') (inner_sensor_at room') t m')
    unary_step n (numeral line v) = go gap asks (fair gap asks (given gap asks (kept (number v)))) refl
    unary_step n (named line x) = taken (named_online x n) refl (λ a. named_live x)
    unary_step n (keyword line words.True) = go gap asks (fair gap asks (given gap asks (kept (truth true)))) refl
    unary_step n (keyword line words.False) = go gap asks (fair gap asks (given gap asks (kept (truth false)))) refl
    unary_step n (keyword line words.Sense) = taken (input_online n) refl (λ a. senses line a)
    unary_step n (sign line marks.Star) = go gap asks target_fair refl
    unary_step n (sign line marks.OpenRound) = opened_step gap asks (parens_opened n) round refl
    unary_step n (sign line marks.Minus) = opened_step gap asks (prefix_opened prefixes.Neg n) before_minus refl
    unary_step n (sign line marks.Not) = opened_step gap asks (prefix_opened prefixes.Not n) before_not refl
    unary_step n _ = refused (λ ts. refl) (λ ts. refl)

    unary_of : (n : ℕ) → Online gap asks expr false n (unary_at small room m) (unary_at large room' m')
    unfolding unary_here
    unary_of n = same gap asks
        (dispatch gap asks (λ t. unary_by (prefixed_at small room) (inner_at small room) (inner_args_at small room) (inner_sensor_at room) t m)
        (λ t. unary_by (prefixed_at large room') (inner_at large room') (inner_args_at large room') (inner_sensor_at room') t m') unary_step n)
        (unary_at small room m) (unary_at large room' m') (λ ts. sym (unary_is small room m ts)) (λ ts. sym (unary_is large room' m' ts))

  -- ---- whole expressions and arguments

  reference_good : (m : Bool) → Good gap asks (reads TArg) false (λ ts. reference_by (m, ts)) (λ ts. reference_by (m, ts))
  reference_good m = good_bind gap asks _ _ (name_good gap asks) (λ x. given gap asks (reference m x))

  references_fair : Fair gap asks (reads TArg) false (λ us. reference_by (take_word words.Mutable us)) (λ us. reference_by (take_word words.Mutable us))
  unfolding take_word
  references_fair =
      fair gap asks (good_same gap asks (λ us. reference_by (take_word words.Mutable us)) (λ us. reference_by (take_word words.Mutable us))
      (λ ts. with_some_apply reference_by (strip_word words.Mutable ts) (false, ts) (λ us. (true, us)))
      (λ ts. with_some_apply reference_by (strip_word words.Mutable ts) (false, ts) (λ us. (true, us)))
      (optional gap asks (strip_word words.Mutable) rest_of (λ v. IsWord words.Mutable) (word_fronts words.Mutable) (λ v t p. calm_word gap asks words.Mutable t p) (λ ts h. h.no_mutable)
      (λ ts. reference_by (false, ts)) (λ ts. reference_by (false, ts)) (λ us. reference_by (true, us)) (λ us. reference_by (true, us)) (reference_good false)
      (λ v. fair gap asks (reference_good true))))

  module _ (small large : Limits) (spends : Above (gap operators_depth) small.operators large.operators) where
    module _ (room room' : ℕ) (lowest : (m m' : ℕ) → Above (gap operators_depth) m m' → (n : ℕ) → Online gap asks expr false n (unary_at small room m) (unary_at large room' m')) where
      pub part_good : Good gap asks (reads TExpr) false (whole_by small (level_at small 5 room)) (whole_by large (level_at large 5 room'))
      part_good = record {
        online = λ n. bind gap asks small_expr large_expr kept_expr (reads TExpr) false false _ _ (λ t e. e) (λ t z e i. ready_given (λ a ts. (a, ts)) i.0)
            (level_online small large room room' lowest 5 small.operators large.operators spends n) (λ i. (given gap asks i.tree).online n);
        ready = ready_bind false large_expr (λ a ts. (a, ts)) (level_at large 5 room' large.operators) _ (level_ready large 5 room' large.operators) (λ i. ready_given (λ a ts. (a, ts)) i.0);
      }

      arg_good : Good gap asks (reads TArg) false (arg_by small (level_at small 5 room)) (arg_by large (level_at large 5 room'))
      arg_good =
          optional gap asks (strip_mark marks.Ampersand) rest_of (λ v. IsMark marks.Ampersand) (mark_fronts marks.Ampersand) (λ v t p. rw p.1 refl) (λ ts h. h.no_ampersand)
          (λ ts. whole_by small (level_at small 5 room) ts >>= λ x. Ok (value x.0, x.1)) (λ ts. whole_by large (level_at large 5 room') ts >>= λ x. Ok (value x.0, x.1))
          (λ us. reference_by (take_word words.Mutable us)) (λ us. reference_by (take_word words.Mutable us))
          (good_bind gap asks _ _ part_good (λ e. given gap asks (value e))) (λ v. references_fair)

      pub args_good : Good gap asks (reads (List TArg)) false (args_at small room) (args_at large room')
      unfolding args_at
      args_good = list_good gap asks (arg_by small (level_at small 5 room)) (arg_by large (level_at large 5 room')) (arg_shorter small room) (arg_shorter large room') arg_good

    -- ---- as deep as brackets may be

    sensor_good : Good gap asks (reads Text) false sensor_at sensor_at
    unfolding sensor_at
    sensor_good = good_bind gap asks _ _ (name_good gap asks) (λ x. good_bind gap asks _ _ (close_round gap asks) (λ v. given gap asks x))

    args_live : (room : ℕ) → Live false (λ a ts. (a, ts)) (args_at large room)
    unfolding args_at listed_by strip_mark
    args_live room = record { more = sign 1 marks.CloseRound ∷ []; value = []; reads = λ rest h. refl }

    input_live : (room m : ℕ) → Live false large_expr (input_by (inner_sensor_at (suc room)) m)
    unfolding expect_mark strip_mark inner_sensor_at sensor_at name_at
    input_live room m = record { more = sign 1 marks.OpenRound ∷ named 1 [] ∷ sign 1 marks.CloseRound ∷ []; value = (sensed [], m); reads = λ rest h. refl }

    module _ (sensible : Positive (gap brackets_depth) ⊎ ((line : ℕ) → asks (keyword line words.Sense) → ⊥)) where
      input_nowhere : 0 ≡ gap brackets_depth → (line : ℕ) → asks (keyword line words.Sense) → ⊥
      input_nowhere e line a = elim sensible [
        | inl p ↦ subst Positive (sym e) p
        | inr h ↦ h line a
      ]

      bottom : (k : ℕ) → k ≡ gap brackets_depth → (m m' : ℕ) → Above (gap operators_depth) m m' → (n : ℕ) → Online gap asks expr false n (unary_at small 0 m) (unary_at large k m')
      unfolding prefixed_at inner_at inner_args_at inner_sensor_at
      bottom zero e m m' a n = unary_of small large 0 0 m m' a (λ n. deep_both (λ z. subst Positive (sym e) z) (λ ts. refl) (λ ts. refl))
          (λ n. deep_both (λ z. subst Positive (sym e) z) (λ ts. refl) (λ ts. refl)) (λ n. deep_both (λ z. subst Positive (sym e) z) (λ ts. refl) (λ ts. refl))
          (λ n. deep_both (λ z. subst Positive (sym e) z) (λ ts. refl) (λ ts. refl)) (λ line z. absurd (input_nowhere e line z)) n
      bottom (suc k) e m m' a n =
          unary_of small large 0 (suc k) m m' a
          (λ n. deep_one (subst Positive e tt) (λ ts. refl) (unary_ready large k m').live)
          (λ n. deep_one (subst Positive e tt) (λ ts. refl) (level_ready large 5 k m').live)
          (λ n. deep_one (subst Positive e tt) (λ ts. refl) (args_live k))
          (λ n. deep_one (subst Positive e tt) (λ ts. refl) sensor_good.ready.live)
          (λ line z. input_live k m') n

      unary_online : (r r' : ℕ) → Above (gap brackets_depth) r r' → (m m' : ℕ) → Above (gap operators_depth) m m' → (n : ℕ) → Online gap asks expr false n (unary_at small r m) (unary_at large r' m')
      unfolding prefixed_at inner_at inner_args_at inner_sensor_at
      unary_online _ _ base m m' a n = bottom (gap brackets_depth) refl m m' a n
      unary_online _ _ (up {r = r} {q = r'} u) m m' a n =
          unary_of small large (suc r) (suc r') m m' a
          (λ n. opened (unary_online r r' u m m' a n) (unary_ready large r' m').live)
          (λ n. opened (level_online small large r r' (unary_online r r' u) 5 m m' a n) (level_ready large 5 r' m').live)
          (λ n. opened ((args_good r r' (unary_online r r' u)).online n) (args_live r'))
          (λ n. opened (sensor_good.online n) sensor_good.ready.live)
          (λ line z. input_live r' m') n

      module _ (brackets : Above (gap brackets_depth) small.brackets large.brackets) where
        pub whole_good : Good gap asks (reads TExpr) false (whole_at small) (whole_at large)
        unfolding whole_at part_at
        whole_good = part_good small.brackets large.brackets (unary_online small.brackets large.brackets brackets)

        pub call_args_good : Good gap asks (reads (List TArg)) false (args_at small small.brackets) (args_at large large.brackets)
        call_args_good = args_good small.brackets large.brackets (unary_online small.brackets large.brackets brackets)
