-- The names that a source declares are no longer than the source.
use Rattle.std.proofs.Common.{ℕ, ◌-◌, ◌≤◌, Bool, true, false, cond, ℤ, List, [], ◌∷◌, length, drop, Option, All, arith}
use Rattle.std.specs.Prelude.{slice_range}
use Rattle.std.proofs.lemmas.List.{length-take, length-drop}
use Rattle.std.proofs.lemmas.List.Elements.{All-nil, All-push}
use Rattle.oc_tree.specs.Names.{Text}
use Rattle.oc_tree.specs.Tree.{TExpr, TArg, TArgs, TRight, TKind, TElse, TStmt, TBlock, TStmts, TFunction, TProgram}
use Rattle.oc_tree.specs.declared.tree.ValueKind.{ValueKind}
use Rattle.oc_tree.specs.declared.tree.Passing.{Passing}
use Rattle.oc_tree.specs.declared.tree.Param.{Param}
use Rattle.oc_tree.specs.declared.tree.Scalar.{Scalar}
use Rattle.oc_tree.specs.declared.tree.BinaryOp.{BinaryOp}
use Rattle.oc_tree.specs.declared.tree.NvDecl.{NvDecl}
use Rattle.oc_lex.specs.declared.token.Kind.{Kind}
use Rattle.oc_lex.specs.declared.token.Kind.TheVariants as kinds
use Rattle.oc_lex.specs.declared.token.Token.{Token}
use Rattle.oc_lex.specs.declared.token.Word.{Word}
use Rattle.oc_lex.specs.declared.token.Mark.{Mark}
use Rattle.oc_grammar.specs.Limits.{Limits}
use Rattle.oc_grammar.specs.Lexemes.{Lexeme, Lexemes, named, keyword, reserved, says, lexeme_by, lexemes_in}
use Rattle.oc_grammar.specs.Fronts.{Named, a_name, Numeral, a_numeral, Keyword, a_keyword, Sign, a_sign, Infix, an_operator}
use Rattle.oc_grammar.specs.Expressions.{Spells, literal, yes, no, name, element, target, parens, minus, negation, input, result, one, more, compare, SpellsArg, by_value}
use Rattle.oc_grammar.specs.Expressions.{by_shared, by_mutable, SpellsArgs, closed, last, further}
use Rattle.oc_grammar.specs.Statements.{SpellsScalar, int_scalar, bool_scalar, SpellsArray, an_array, SpellsType, int_type, bool_type, array_type, SpellsConst, positive, negative}
use Rattle.oc_grammar.specs.Statements.{SpellsRight, a_right, SpellsMut, with_mut, without_mut, SpellsNote, typed, untyped, LetHead, let_head, SpellsSimple, let_right, let_fill}
use Rattle.oc_grammar.specs.Statements.{assigns, assigns_index, assigns_deref, calls, senses, emits, marks_fresh, marks_consistent, returns, Position, SpellsKind, simple, if_form}
use Rattle.oc_grammar.specs.Statements.{for_form, while_form, atomic_form, SpellsElse, without, otherwise, else_if, SpellsStmt, statement, SpellsBlock, braces, SpellsStmts, end, first}
use Rattle.oc_grammar.specs.Programs.{SpellsPassing, itself, shared_ref, mutable_ref, SpellsParam, a_param, SpellsParams, no_param, last_param, further_params, SpellsResult}
use Rattle.oc_grammar.specs.Programs.{no_result, a_result, SpellsFunction, a_function, SpellsCells, one_cell, array_cells, SpellsNv, an_nv, SpellsItem, sensor_item, port_item}
use Rattle.oc_grammar.specs.Programs.{nv_item, function_item, SpellsItems, no_item, an_item, SpellsProgram, empty_program}

-- each declared name has at most so many bytes
pub record HasShortNames (most : ℕ) (p : TProgram) : Type 0 where
  pub sensors : All (λ x. length x ≤ most) p.names.sensors
  pub ports : All (λ x. length x ≤ most) p.names.ports
  pub nvs : All (λ x. length x ≤ most) p.names.nvs
  pub functions : All (λ f. length f.name ≤ most) p.functions

-- ---- the tokens of a source

-- so has the name that a token says
abbrev IsShort : ℕ → Lexeme → Type 0
IsShort most (named line x) = length x ≤ most
IsShort most _ = Unit {0}

abbrev AreShort : ℕ → Lexemes → Type 0
AreShort most [] = Unit {0}
AreShort most (t ∷ ts) = IsShort most t × AreShort most ts

module _ (source : List ℕ) where
  part_short : (from to : ℕ) → length (slice_range source from to) ≤ length source
  part_short from to = omega (arith, length-take (to - from) (drop from source), length-drop from source)

  word_short : (b : Bool) (line : ℕ) (w : Word) → IsShort (length source) (cond b (keyword line w) (reserved line))
  word_short true line w = tt
  word_short false line w = tt

  token_short : (line : ℕ) (text : Text) (k : Kind) → length text ≤ length source → IsShort (length source) (lexeme_by false line text k)
  token_short line text kinds.Name h = h
  token_short line text (kinds.Number v) h = tt
  token_short line text (kinds.Word w) h = word_short (says false w) line w
  token_short line text (kinds.Mark m) h = tt

  tokens_short : (ts : List Token) → AreShort (length source) (lexemes_in false source ts)
  tokens_short [] = tt
  tokens_short (t ∷ ts) = (token_short t.line (slice_range source t.start t.end) t.kind (part_short t.start t.end), tokens_short ts)

-- ---- the tokens behind a part of a program

module _ (most : ℕ) where
  name_left : {x : Text} {from rest : Lexemes} → Named x from rest → AreShort most from → AreShort most rest
  name_left a_name h = h.1

  number_left : {z : ℤ} {from rest : Lexemes} → Numeral z from rest → AreShort most from → AreShort most rest
  number_left a_numeral h = h.1

  keyword_left : {w : Word} {from rest : Lexemes} → Keyword w from rest → AreShort most from → AreShort most rest
  keyword_left a_keyword h = h.1

  sign_left : {m : Mark} {from rest : Lexemes} → Sign m from rest → AreShort most from → AreShort most rest
  sign_left a_sign h = h.1

  infix_left : {op : BinaryOp} {level : ℕ} {from rest : Lexemes} → Infix op level from rest → AreShort most from → AreShort most rest
  infix_left (an_operator e) h = h.1

  const_left : {z : ℤ} {from rest : Lexemes} → SpellsConst z from rest → AreShort most from → AreShort most rest
  const_left (positive i) h = number_left i h
  const_left (negative s i) h = number_left i (sign_left s h)

  array_left : {n : ℕ} {from rest : Lexemes} → SpellsArray n from rest → AreShort most from → AreShort most rest
  array_left (an_array o w s i c) h = sign_left c (number_left i (sign_left s (keyword_left w (sign_left o h))))

  type_left : {k : ValueKind} {from rest : Lexemes} → SpellsType k from rest → AreShort most from → AreShort most rest
  type_left (int_type w) h = keyword_left w h
  type_left (bool_type w) h = keyword_left w h
  type_left (array_type a) h = array_left a h

  note_left : {k : Option ValueKind} {from rest : Lexemes} → SpellsNote k from rest → AreShort most from → AreShort most rest
  note_left (typed s k) h = type_left k (sign_left s h)
  note_left untyped h = h

  mutual
    expr_left : {limits : Limits} {room level : ℕ} {e : TExpr} {from rest : Lexemes} → Spells limits room level e from rest → AreShort most from → AreShort most rest
    expr_left (literal i) h = number_left i h
    expr_left (yes k) h = keyword_left k h
    expr_left (no k) h = keyword_left k h
    expr_left (name i) h = name_left i h
    expr_left (element i s d k) h = sign_left k (expr_left d (sign_left s (name_left i h)))
    expr_left (target s i) h = name_left i (sign_left s h)
    expr_left (parens s d k) h = sign_left k (expr_left d (sign_left s h))
    expr_left (minus s d) h = expr_left d (sign_left s h)
    expr_left (negation s d) h = expr_left d (sign_left s h)
    expr_left (input k o i c) h = sign_left c (name_left i (sign_left o (keyword_left k h)))
    expr_left (result i o d) h = args_left d (sign_left o (name_left i h))
    expr_left (one d) h = expr_left d h
    expr_left (more ne d o e) h = expr_left e (infix_left o (expr_left d h))
    expr_left (compare d o e) h = expr_left e (infix_left o (expr_left d h))

    arg_left : {limits : Limits} {room : ℕ} {arg : TArg} {from rest : Lexemes} → SpellsArg limits room arg from rest → AreShort most from → AreShort most rest
    arg_left (by_value d few) h = expr_left d h
    arg_left (by_shared s i) h = name_left i (sign_left s h)
    arg_left (by_mutable s k i) h = name_left i (keyword_left k (sign_left s h))

    args_left : {limits : Limits} {room : ℕ} {args : TArgs} {from rest : Lexemes} → SpellsArgs limits room args from rest → AreShort most from → AreShort most rest
    args_left (closed s) h = sign_left s h
    args_left (last d s) h = sign_left s (arg_left d h)
    args_left (further d s e) h = args_left e (sign_left s (arg_left d h))

  right_left : {limits : Limits} {r : TRight} {from rest : Lexemes} → SpellsRight limits r from rest → AreShort most from → AreShort most rest
  right_left (a_right d s) h = sign_left s (expr_left d.spelled h)

  mut_left : {m : Bool} {from rest : Lexemes} → SpellsMut m from rest → AreShort most from → AreShort most rest
  mut_left (with_mut k) h = keyword_left k h
  mut_left without_mut h = h

  head_left : {m : Bool} {x : Text} {k : Option ValueKind} {from rest : Lexemes} → LetHead m x k from rest → AreShort most from → AreShort most rest
  head_left (let_head w m i t s) h = sign_left s (note_left t (name_left i (mut_left m (keyword_left w h))))

  simple_left : {limits : Limits} {k : TKind} {from rest : Lexemes} → SpellsSimple limits k from rest → AreShort most from → AreShort most rest
  simple_left (let_right d r) h = right_left r (head_left d h)
  simple_left (let_fill d o i s n c t) h = sign_left t (sign_left c (number_left n (sign_left s (const_left i (sign_left o (head_left d h))))))
  simple_left (assigns i s r) h = right_left r (sign_left s (name_left i h))
  simple_left (assigns_index i o w c s r) h = right_left r (sign_left s (sign_left c (expr_left w.spelled (sign_left o (name_left i h)))))
  simple_left (assigns_deref o i s r) h = right_left r (sign_left s (name_left i (sign_left o h)))
  simple_left (calls i o d s) h = sign_left s (args_left d (sign_left o (name_left i h)))
  simple_left (senses k o i c s) h = sign_left s (sign_left c (name_left i (sign_left o (keyword_left k h))))
  simple_left (emits k o i m w c s) h = sign_left s (sign_left c (expr_left w.spelled (sign_left m (name_left i (sign_left o (keyword_left k h))))))
  simple_left (marks_fresh k o i c s) h = sign_left s (sign_left c (name_left i (sign_left o (keyword_left k h))))
  simple_left (marks_consistent k o i m n c s) h = sign_left s (sign_left c (number_left n (sign_left m (name_left i (sign_left o (keyword_left k h))))))
  simple_left (returns k w s) h = sign_left s (expr_left w.spelled (keyword_left k h))

  mutual
    kind_left : {limits : Limits} {room : ℕ} {k : TKind} {p q : Position} → SpellsKind limits room k p q → AreShort most p.2 → AreShort most q.2
    kind_left (simple d) h = simple_left d h
    kind_left (if_form k c t o) h = else_left o (block_left t (expr_left c.spelled (keyword_left k h)))
    kind_left (for_form k i n c r d t) h = block_left t (const_left d (sign_left r (const_left c (keyword_left n (name_left i (keyword_left k h))))))
    kind_left (while_form k c w i t) h = block_left t (number_left i (keyword_left w (expr_left c.spelled (keyword_left k h))))
    kind_left (atomic_form k t) h = block_left t (keyword_left k h)

    else_left : {limits : Limits} {room : ℕ} {o : TElse} {p q : Position} → SpellsElse limits room o p q → AreShort most p.2 → AreShort most q.2
    else_left without h = h
    else_left (otherwise k t) h = block_left t (keyword_left k h)
    else_left (else_if k l d) h = stmt_left d (keyword_left k h)

    stmt_left : {limits : Limits} {room : ℕ} {s : TStmt} {p q : Position} → SpellsStmt limits room s p q → AreShort most p.2 → AreShort most q.2
    stmt_left (statement d) h = kind_left d h

    block_left : {limits : Limits} {room : ℕ} {t : TBlock} {p q : Position} → SpellsBlock limits room t p q → AreShort most p.2 → AreShort most q.2
    block_left (braces s d) h = stmts_left d (sign_left s h)

    stmts_left : {limits : Limits} {room : ℕ} {ss : TStmts} {p q : Position} → SpellsStmts limits room ss p q → AreShort most p.2 → AreShort most q.2
    stmts_left (end s) h = sign_left s h
    stmts_left (first d e) h = stmts_left e (stmt_left d h)

  passing_left : {p : Passing} {from rest : Lexemes} → SpellsPassing p from rest → AreShort most from → AreShort most rest
  passing_left itself h = h
  passing_left (shared_ref s) h = sign_left s h
  passing_left (mutable_ref s k) h = keyword_left k (sign_left s h)

  param_left : {p : Param} {from rest : Lexemes} → SpellsParam p from rest → AreShort most from → AreShort most rest
  param_left (a_param i s g t) h = type_left t (passing_left g (sign_left s (name_left i h)))

  params_left : {ps : List Param} {from rest : Lexemes} → SpellsParams ps from rest → AreShort most from → AreShort most rest
  params_left (no_param s) h = sign_left s h
  params_left (last_param d s) h = sign_left s (param_left d h)
  params_left (further_params d s e) h = params_left e (sign_left s (param_left d h))

  scalar_left : {s : Scalar} {from rest : Lexemes} → SpellsScalar s from rest → AreShort most from → AreShort most rest
  scalar_left (int_scalar k) h = keyword_left k h
  scalar_left (bool_scalar k) h = keyword_left k h

  result_left : {r : Option Scalar} {from rest : Lexemes} → SpellsResult r from rest → AreShort most from → AreShort most rest
  result_left no_result h = h
  result_left (a_result s d) h = scalar_left d (sign_left s h)

  cells_left : {n : ℕ} {array : Bool} {from rest : Lexemes} → SpellsCells n array from rest → AreShort most from → AreShort most rest
  cells_left (one_cell k) h = keyword_left k h
  cells_left (array_cells d) h = array_left d h

  -- ---- declarations

  name_short : {x : Text} {from rest : Lexemes} → Named x from rest → AreShort most from → length x ≤ most
  name_short a_name h = h.0

  function_short : {limits : Limits} {f : TFunction} {p q : Position} → SpellsFunction limits f p q → AreShort most p.2 → (length f.name ≤ most) × AreShort most q.2
  function_short (a_function w i o ps r t) h =
      let a = keyword_left w h in (name_short i a, block_left t (result_left r (params_left ps (sign_left o (name_left i a)))))

  nv_short : {x : Text} {d : NvDecl} {from rest : Lexemes} → SpellsNv x d from rest → AreShort most from → (length x ≤ most) × AreShort most rest
  nv_short (an_nv w i s c e z t) h =
      let a = keyword_left w h in (name_short i a, sign_left t (const_left z (sign_left e (cells_left c (sign_left s (name_left i a))))))

  item_short : {limits : Limits} {p q : TProgram} {x y : Position} → SpellsItem limits p x q y → AreShort most x.2 → HasShortNames most p → HasShortNames most q × AreShort most y.2
  item_short (sensor_item {p = p} {x = x} w i s) h g =
      let a = keyword_left w h in
      let one : length x ≤ most = name_short i a in
      (record { sensors = All-push (λ y. length y ≤ most) p.names.sensors x g.sensors one; ports = g.ports; nvs = g.nvs; functions = g.functions }, sign_left s (name_left i a))
  item_short (port_item {p = p} {x = x} w i s) h g =
      let a = keyword_left w h in
      let one : length x ≤ most = name_short i a in
      (record { sensors = g.sensors; ports = All-push (λ y. length y ≤ most) p.names.ports x g.ports one; nvs = g.nvs; functions = g.functions }, sign_left s (name_left i a))
  item_short (nv_item {p = p} {x = x} d) h g =
      let a = nv_short d h in
      (record { sensors = g.sensors; ports = g.ports; nvs = All-push (λ y. length y ≤ most) p.names.nvs x g.nvs a.0; functions = g.functions }, a.1)
  item_short (function_item {p = p} {f = f} d) h g =
      let a = function_short d h in
      (record { sensors = g.sensors; ports = g.ports; nvs = g.nvs; functions = All-push (λ e. length e.name ≤ most) p.functions f g.functions a.0 }, a.1)

  items_short : {limits : Limits} {p r : TProgram} {x : Position} → SpellsItems limits p x r → AreShort most x.2 → HasShortNames most p → HasShortNames most r
  items_short no_item h g = g
  items_short (an_item d e) h g = let a = item_short d h g in items_short e a.1 a.0

  empty_short : (line : ℕ) → HasShortNames most (empty_program line)
  empty_short line = record {
    sensors = All-nil (λ x. length x ≤ most);
    ports = All-nil (λ x. length x ≤ most);
    nvs = All-nil (λ x. length x ≤ most);
    functions = All-nil (λ f. length f.name ≤ most);
  }

pub short_names : {limits : Limits} {p : TProgram} (source : List ℕ) (tokens : List Token) → SpellsProgram limits p (lexemes_in false source tokens) → HasShortNames (length source) p
short_names source tokens d = items_short (length source) d (tokens_short source tokens) (empty_short (length source) _)
