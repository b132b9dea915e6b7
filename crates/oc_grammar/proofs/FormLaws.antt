-- A tree that tokens spell has names of the language for names, and for numbers what tokens can say.
use Rattle.std.proofs.Common.{◌≡◌, ℕ, zero, suc, ℤ, pos, neg_ℤ, ◌≤◌, List, [], refl, sym, subst, ap, ◌∙◌, arith, inl, inr, Option, Bool, unsigned_abs, All}
use Rattle.std.specs.Int.{w32}
use Rattle.std.proofs.lemmas.Int.{wrapping_neg_is, int_wrap_fits, fits_signed_from_abs}
use Rattle.std.proofs.lemmas.List.Elements.{All-nil, All-cons, All-push}
use Rattle.oc_tree.specs.Names.{Text}
use Rattle.oc_tree.specs.Tree.{TExpr, number, truth, variable, index, deref, unary, binary, sensed, called, TArg, TArgs, TRight, TKind, TElse, TStmt, TBlock, TStmts, TFunction, TProgram}
use Rattle.oc_tree.specs.Form.{IsNumeral, IsConst, IsCount, TypeInForm, NoteInForm, ExprInForm, ArgInForm, ArgsInForm, RightInForm, KindInForm, ElseInForm, StmtInForm, BlockInForm}
use Rattle.oc_tree.specs.Form.{StmtsInForm, ParamInForm, FunctionInForm, CellsInForm, NvInForm, Spellable}
use Rattle.oc_tree.specs.declared.tree.ValueKind.{ValueKind}
use Rattle.oc_tree.specs.declared.tree.Passing.{Passing}
use Rattle.oc_tree.specs.declared.tree.Param.{Param}
use Rattle.oc_tree.specs.declared.tree.Scalar.{Scalar}
use Rattle.oc_tree.specs.declared.tree.BinaryOp.{BinaryOp}
use Rattle.oc_tree.specs.declared.tree.NvDecl.{NvDecl}
use Rattle.oc_lex.specs.declared.token.Word.{Word}
use Rattle.oc_lex.specs.declared.token.Mark.{Mark}
use Rattle.oc_lex.specs.Stands.{IsName}
use Rattle.oc_grammar.specs.Limits.{Limits}
use Rattle.oc_grammar.specs.Lexemes.{Lexemes, LexemesInForm}
use Rattle.oc_grammar.specs.Fronts.{Named, a_name, Numeral, a_numeral, Keyword, a_keyword, Sign, a_sign, Infix, an_operator}
use Rattle.oc_grammar.specs.Expressions.{Spells, literal, yes, no, name, element, target, parens, minus, negation, input, result, one, more, compare, SpellsArg, by_value}
use Rattle.oc_grammar.specs.Expressions.{by_shared, by_mutable, SpellsArgs, closed, last, further}
use Rattle.oc_grammar.specs.Statements.{SpellsScalar, int_scalar, bool_scalar, SpellsArray, an_array, SpellsType, int_type, bool_type, array_type, opposite, SpellsConst, positive}
use Rattle.oc_grammar.specs.Statements.{negative, right_of, SpellsRight, a_right, SpellsMut, with_mut, without_mut, SpellsNote, typed, untyped, LetHead, let_head, SpellsSimple}
use Rattle.oc_grammar.specs.Statements.{let_right, let_fill, assigns, assigns_index, assigns_deref, calls, senses, emits, marks_fresh, marks_consistent, returns, Position, SpellsKind}
use Rattle.oc_grammar.specs.Statements.{simple, if_form, for_form, while_form, atomic_form, SpellsElse, without, otherwise, else_if, SpellsStmt, statement, SpellsBlock, braces}
use Rattle.oc_grammar.specs.Statements.{SpellsStmts, end, first}
use Rattle.oc_grammar.specs.Programs.{SpellsPassing, itself, shared_ref, mutable_ref, SpellsParam, a_param, SpellsParams, no_param, last_param, further_params, SpellsResult}
use Rattle.oc_grammar.specs.Programs.{no_result, a_result, SpellsFunction, a_function, SpellsCells, one_cell, array_cells, SpellsNv, an_nv, SpellsItem, sensor_item, port_item}
use Rattle.oc_grammar.specs.Programs.{nv_item, function_item, SpellsItems, no_item, an_item, SpellsProgram, empty_program}

-- ---- what stands in front

name_in : {x : Text} {from rest : Lexemes} → Named x from rest → LexemesInForm from → IsName x × LexemesInForm rest
name_in a_name h = h

number_in : {z : ℤ} {from rest : Lexemes} → Numeral z from rest → LexemesInForm from → IsNumeral z × LexemesInForm rest
number_in a_numeral h = h

keyword_in : {w : Word} {from rest : Lexemes} → Keyword w from rest → LexemesInForm from → LexemesInForm rest
keyword_in a_keyword h = h.1

sign_in : {m : Mark} {from rest : Lexemes} → Sign m from rest → LexemesInForm from → LexemesInForm rest
sign_in a_sign h = h.1

infix_in : {op : BinaryOp} {level : ℕ} {from rest : Lexemes} → Infix op level from rest → LexemesInForm from → LexemesInForm rest
infix_in (an_operator e) h = h.1

-- ---- numbers

count_of : (z : ℤ) → IsNumeral z → IsCount (unsigned_abs z)
count_of z h = subst (λ (y : ℤ). IsCount (unsigned_abs y)) (sym h.1) h.2

size_of_opposite : (n : ℕ) → unsigned_abs (neg_ℤ (pos n)) ≡ n
size_of_opposite zero = refl
size_of_opposite (suc n) = refl

opposite_is : (n : ℕ) → n ≤ 2147483647 → opposite (pos n) ≡ neg_ℤ (pos n)
opposite_is n h =
    wrapping_neg_is w32 (pos n) (fits_signed_from_abs w32 (pos n) (omega arith))
    ∙ int_wrap_fits w32 (neg_ℤ (pos n)) (fits_signed_from_abs w32 (neg_ℤ (pos n)) (rw size_of_opposite omega arith))

const_of_opposite : (z : ℤ) → IsNumeral z → IsConst (opposite z)
const_of_opposite z h = (h.0, inr (ap opposite h.1 ∙ opposite_is h.0 h.2), h.2)

const_in : {z : ℤ} {from rest : Lexemes} → SpellsConst z from rest → LexemesInForm from → IsConst z × LexemesInForm rest
const_in (positive i) h = let a = number_in i h in ((a.0.0, inl a.0.1, a.0.2), a.1)
const_in (negative {z = z} s i) h = let a = number_in i (sign_in s h) in (const_of_opposite z a.0, a.1)

-- ---- types

array_in : {n : ℕ} {from rest : Lexemes} → SpellsArray n from rest → LexemesInForm from → IsCount n × LexemesInForm rest
array_in (an_array {n = z} o w s i c) h = let a = number_in i (sign_in s (keyword_in w (sign_in o h))) in (count_of z a.0, sign_in c a.1)

type_in : {k : ValueKind} {from rest : Lexemes} → SpellsType k from rest → LexemesInForm from → TypeInForm k × LexemesInForm rest
type_in (int_type w) h = (tt, keyword_in w h)
type_in (bool_type w) h = (tt, keyword_in w h)
type_in (array_type a) h = array_in a h

note_in : {k : Option ValueKind} {from rest : Lexemes} → SpellsNote k from rest → LexemesInForm from → NoteInForm k × LexemesInForm rest
note_in (typed s k) h = type_in k (sign_in s h)
note_in untyped h = (tt, h)

-- ---- expressions

mutual
  expr_in : {limits : Limits} {room level : ℕ} {e : TExpr} {from rest : Lexemes} → Spells limits room level e from rest → LexemesInForm from → ExprInForm IsName e × LexemesInForm rest
  expr_in (literal i) h = number_in i h
  expr_in (yes k) h = (tt, keyword_in k h)
  expr_in (no k) h = (tt, keyword_in k h)
  expr_in (name i) h = name_in i h
  expr_in (element i s d k) h = let a = name_in i h in let b = expr_in d (sign_in s a.1) in ((a.0, b.0), sign_in k b.1)
  expr_in (target s i) h = name_in i (sign_in s h)
  expr_in (parens s d k) h = let a = expr_in d (sign_in s h) in (a.0, sign_in k a.1)
  expr_in (minus s d) h = expr_in d (sign_in s h)
  expr_in (negation s d) h = expr_in d (sign_in s h)
  expr_in (input k o i c) h = let a = name_in i (sign_in o (keyword_in k h)) in (a.0, sign_in c a.1)
  expr_in (result i o d) h = let a = name_in i h in let b = args_in d (sign_in o a.1) in ((a.0, b.0), b.1)
  expr_in (one d) h = expr_in d h
  expr_in (more ne d o e) h = let a = expr_in d h in let b = expr_in e (infix_in o a.1) in ((a.0, b.0), b.1)
  expr_in (compare d o e) h = let a = expr_in d h in let b = expr_in e (infix_in o a.1) in ((a.0, b.0), b.1)

  arg_in : {limits : Limits} {room : ℕ} {arg : TArg} {from rest : Lexemes} → SpellsArg limits room arg from rest → LexemesInForm from → ArgInForm IsName arg × LexemesInForm rest
  arg_in (by_value d few) h = expr_in d h
  arg_in (by_shared s i) h = name_in i (sign_in s h)
  arg_in (by_mutable s k i) h = name_in i (keyword_in k (sign_in s h))

  args_in : {limits : Limits} {room : ℕ} {args : TArgs} {from rest : Lexemes} → SpellsArgs limits room args from rest → LexemesInForm from → ArgsInForm IsName args × LexemesInForm rest
  args_in (closed s) h = (tt, sign_in s h)
  args_in (last d s) h = let a = arg_in d h in ((a.0, tt), sign_in s a.1)
  args_in (further d s e) h = let a = arg_in d h in let b = args_in e (sign_in s a.1) in ((a.0, b.0), b.1)

-- ---- statements

right_form : (e : TExpr) → ExprInForm IsName e → RightInForm IsName (right_of e)
right_form (sensed s) h = h
right_form (called c) h = h
right_form x h = (tt, h)

right_in : {limits : Limits} {r : TRight} {from rest : Lexemes} → SpellsRight limits r from rest → LexemesInForm from → RightInForm IsName r × LexemesInForm rest
right_in (a_right {e = e} d s) h = let a = expr_in d.spelled h in (right_form e a.0, sign_in s a.1)

mut_in : {m : Bool} {from rest : Lexemes} → SpellsMut m from rest → LexemesInForm from → LexemesInForm rest
mut_in (with_mut k) h = keyword_in k h
mut_in without_mut h = h

head_in : {m : Bool} {x : Text} {k : Option ValueKind} {from rest : Lexemes} → LetHead m x k from rest → LexemesInForm from → IsName x × NoteInForm k × LexemesInForm rest
head_in (let_head w m i t s) h = let a = name_in i (mut_in m (keyword_in w h)) in let b = note_in t a.1 in (a.0, b.0, sign_in s b.1)

simple_in : {limits : Limits} {k : TKind} {from rest : Lexemes} → SpellsSimple limits k from rest → LexemesInForm from → KindInForm IsName k × LexemesInForm rest
simple_in (let_right d r) h = let a = head_in d h in let b = right_in r a.2 in ((a.0, a.1, b.0), b.1)
simple_in (let_fill {n = z} d o i s n c t) h =
    let a = head_in d h in
    let b = const_in i (sign_in o a.2) in
    let e = number_in n (sign_in s b.1) in
    ((a.0, a.1, b.0, count_of z e.0), sign_in t (sign_in c e.1))
simple_in (assigns i s r) h = let a = name_in i h in let b = right_in r (sign_in s a.1) in ((a.0, b.0), b.1)
simple_in (assigns_index i o w c s r) h =
    let a = name_in i h in
    let b = expr_in w.spelled (sign_in o a.1) in
    let e = right_in r (sign_in s (sign_in c b.1)) in
    ((a.0, b.0, e.0), e.1)
simple_in (assigns_deref o i s r) h = let a = name_in i (sign_in o h) in let b = right_in r (sign_in s a.1) in ((a.0, b.0), b.1)
simple_in (calls i o d s) h = let a = name_in i h in let b = args_in d (sign_in o a.1) in ((a.0, b.0), sign_in s b.1)
simple_in (senses k o i c s) h = let a = name_in i (sign_in o (keyword_in k h)) in (a.0, sign_in s (sign_in c a.1))
simple_in (emits k o i m w c s) h =
    let a = name_in i (sign_in o (keyword_in k h)) in
    let b = expr_in w.spelled (sign_in m a.1) in
    ((a.0, b.0), sign_in s (sign_in c b.1))
simple_in (marks_fresh k o i c s) h = let a = name_in i (sign_in o (keyword_in k h)) in (a.0, sign_in s (sign_in c a.1))
simple_in (marks_consistent k o i m n c s) h =
    let a = name_in i (sign_in o (keyword_in k h)) in
    let b = number_in n (sign_in m a.1) in
    ((a.0, b.0), sign_in s (sign_in c b.1))
simple_in (returns k w s) h = let a = expr_in w.spelled (keyword_in k h) in (a.0, sign_in s a.1)

mutual
  kind_in : {limits : Limits} {room : ℕ} {k : TKind} {p q : Position} → SpellsKind limits room k p q → LexemesInForm p.2 → KindInForm IsName k × LexemesInForm q.2
  kind_in (simple d) h = simple_in d h
  kind_in (if_form k c t o) h =
      let a = expr_in c.spelled (keyword_in k h) in
      let b = block_in t a.1 in
      let d = else_in o b.1 in
      ((a.0, b.0, d.0), d.1)
  kind_in (for_form k i n c r d t) h =
      let a = name_in i (keyword_in k h) in
      let b = const_in c (keyword_in n a.1) in
      let e = const_in d (sign_in r b.1) in
      let f = block_in t e.1 in
      ((a.0, b.0, e.0, f.0), f.1)
  kind_in (while_form {z = z} k c w i t) h =
      let a = expr_in c.spelled (keyword_in k h) in
      let b = number_in i (keyword_in w a.1) in
      let d = block_in t b.1 in
      ((a.0, count_of z b.0, d.0), d.1)
  kind_in (atomic_form k t) h = let d = block_in t (keyword_in k h) in ((tt, d.0, tt), d.1)

  else_in : {limits : Limits} {room : ℕ} {o : TElse} {p q : Position} → SpellsElse limits room o p q → LexemesInForm p.2 → ElseInForm IsName o × LexemesInForm q.2
  else_in without h = (tt, h)
  else_in (otherwise k t) h = block_in t (keyword_in k h)
  else_in (else_if k l d) h = let a = stmt_in d (keyword_in k h) in ((a.0, tt), a.1)

  stmt_in : {limits : Limits} {room : ℕ} {s : TStmt} {p q : Position} → SpellsStmt limits room s p q → LexemesInForm p.2 → StmtInForm IsName s × LexemesInForm q.2
  stmt_in (statement d) h = kind_in d h

  block_in : {limits : Limits} {room : ℕ} {t : TBlock} {p q : Position} → SpellsBlock limits room t p q → LexemesInForm p.2 → BlockInForm IsName t × LexemesInForm q.2
  block_in (braces s d) h = stmts_in d (sign_in s h)

  stmts_in : {limits : Limits} {room : ℕ} {ss : TStmts} {p q : Position} → SpellsStmts limits room ss p q → LexemesInForm p.2 → StmtsInForm IsName ss × LexemesInForm q.2
  stmts_in (end s) h = (tt, sign_in s h)
  stmts_in (first d e) h = let a = stmt_in d h in let b = stmts_in e a.1 in ((a.0, b.0), b.1)

-- ---- functions and declarations

passing_in : {p : Passing} {from rest : Lexemes} → SpellsPassing p from rest → LexemesInForm from → LexemesInForm rest
passing_in itself h = h
passing_in (shared_ref s) h = sign_in s h
passing_in (mutable_ref s k) h = keyword_in k (sign_in s h)

param_in : {p : Param} {from rest : Lexemes} → SpellsParam p from rest → LexemesInForm from → ParamInForm IsName p × LexemesInForm rest
param_in (a_param i s g t) h = let a = name_in i h in let b = type_in t (passing_in g (sign_in s a.1)) in ((a.0, b.0), b.1)

params_in : {ps : List Param} {from rest : Lexemes} → SpellsParams ps from rest → LexemesInForm from → All (ParamInForm IsName) ps × LexemesInForm rest
params_in (no_param s) h = (All-nil (ParamInForm IsName), sign_in s h)
params_in (last_param {p = p} d s) h = let a = param_in d h in (All-cons (ParamInForm IsName) p [] a.0 (All-nil (ParamInForm IsName)), sign_in s a.1)
params_in (further_params {p = p} {ps = ps} d s e) h = let a = param_in d h in let b = params_in e (sign_in s a.1) in (All-cons (ParamInForm IsName) p ps a.0 b.0, b.1)

scalar_in : {s : Scalar} {from rest : Lexemes} → SpellsScalar s from rest → LexemesInForm from → LexemesInForm rest
scalar_in (int_scalar k) h = keyword_in k h
scalar_in (bool_scalar k) h = keyword_in k h

result_in : {r : Option Scalar} {from rest : Lexemes} → SpellsResult r from rest → LexemesInForm from → LexemesInForm rest
result_in no_result h = h
result_in (a_result s d) h = scalar_in d (sign_in s h)

function_in : {limits : Limits} {f : TFunction} {p q : Position} → SpellsFunction limits f p q → LexemesInForm p.2 → FunctionInForm IsName f × LexemesInForm q.2
function_in (a_function w i o ps r t) h =
    let a = name_in i (keyword_in w h) in
    let b = params_in ps (sign_in o a.1) in
    let c = block_in t (result_in r b.1) in
    (record { name = a.0; params = b.0; body = c.0 }, c.1)

cells_in : {n : ℕ} {array : Bool} {from rest : Lexemes} → SpellsCells n array from rest → LexemesInForm from → CellsInForm array n × LexemesInForm rest
cells_in (one_cell k) h = (refl, keyword_in k h)
cells_in (array_cells d) h = array_in d h

nv_in : {x : Text} {d : NvDecl} {from rest : Lexemes} → SpellsNv x d from rest → LexemesInForm from → IsName x × NvInForm d × LexemesInForm rest
nv_in (an_nv w i s c e z t) h =
    let a = name_in i (keyword_in w h) in
    let b = cells_in c (sign_in s a.1) in
    let d = const_in z (sign_in e b.1) in
    (a.0, (b.0, d.0), sign_in t d.1)

-- ---- programs

item_in : {limits : Limits} {p q : TProgram} {x y : Position} → SpellsItem limits p x q y → LexemesInForm x.2 → Spellable IsName p → Spellable IsName q × LexemesInForm y.2
item_in (sensor_item {p = p} {x = x} w i s) h g =
    let a = name_in i (keyword_in w h) in
    (record { sensors = All-push IsName p.names.sensors x g.sensors a.0; ports = g.ports; nvs = g.nvs; nv = g.nv; functions = g.functions }, sign_in s a.1)
item_in (port_item {p = p} {x = x} w i s) h g =
    let a = name_in i (keyword_in w h) in
    (record { sensors = g.sensors; ports = All-push IsName p.names.ports x g.ports a.0; nvs = g.nvs; nv = g.nv; functions = g.functions }, sign_in s a.1)
item_in (nv_item {p = p} {x = x} {d = d} n) h g =
    let a = nv_in n h in
    (record { sensors = g.sensors; ports = g.ports; nvs = All-push IsName p.names.nvs x g.nvs a.0; nv = All-push NvInForm p.nv d g.nv a.1; functions = g.functions }, a.2)
item_in (function_item {p = p} {f = f} d) h g =
    let a = function_in d h in
    (record { sensors = g.sensors; ports = g.ports; nvs = g.nvs; nv = g.nv; functions = All-push (FunctionInForm IsName) p.functions f g.functions a.0 }, a.1)

items_in : {limits : Limits} {p r : TProgram} {x : Position} → SpellsItems limits p x r → LexemesInForm x.2 → Spellable IsName p → Spellable IsName r
items_in no_item h g = g
items_in (an_item d e) h g = let a = item_in d h g in items_in e a.1 a.0

empty_spellable : (line : ℕ) → Spellable IsName (empty_program line)
empty_spellable line = record { sensors = All-nil IsName; ports = All-nil IsName; nvs = All-nil IsName; nv = All-nil NvInForm; functions = All-nil (FunctionInForm IsName) }

pub program_spellable : (limits : Limits) (ts : Lexemes) (p : TProgram) → SpellsProgram limits p ts → LexemesInForm ts → Spellable IsName p
program_spellable limits ts p d h = items_in d h (empty_spellable _)
