-- `if true` in the place of `atomic` leaves the tree as it is.
use Rattle.std.proofs.Common.{◌≡◌, ℕ, ℤ, Bool, true, false, cond, Option, Some, List, [], ◌∷◌, ◌++◌, refl, sym, ap, subst, ◌∙◌, append_assoc, arith}
use Rattle.oc_tree.specs.Names.{Text}
use Rattle.oc_tree.specs.Tree.{TExpr, truth, TArg, TArgs, TRight, TKind, TElse, TStmt, TBlock, TStmts, TFunction, TProgram}
use Rattle.oc_tree.specs.declared.tree.ValueKind.{ValueKind}
use Rattle.oc_tree.specs.declared.tree.Passing.{Passing}
use Rattle.oc_tree.specs.declared.tree.Param.{Param}
use Rattle.oc_tree.specs.declared.tree.Scalar.{Scalar}
use Rattle.oc_tree.specs.declared.tree.BinaryOp.{BinaryOp}
use Rattle.oc_tree.specs.declared.tree.NvDecl.{NvDecl}
use Rattle.oc_lex.specs.declared.token.Kind.{Kind}
use Rattle.oc_lex.specs.declared.token.Kind.TheVariants as kinds
use Rattle.oc_lex.specs.declared.token.Word.{Word}
use Rattle.oc_lex.specs.declared.token.Word.TheVariants as words
use Rattle.oc_lex.specs.declared.token.Mark.{Mark}
use Rattle.oc_grammar.specs.Limits.{Limits}
use Rattle.oc_grammar.specs.Lexemes.{Lexeme, Lexemes, named, numeral, keyword, sign, reserved, is_atomic, says, lexeme_by, lexeme_of, lexemes_of, line_of, front_line, last_line}
use Rattle.oc_grammar.specs.Fronts.{Named, a_name, Numeral, a_numeral, Keyword, a_keyword, Sign, a_sign, infix_of, Infix, an_operator}
use Rattle.oc_grammar.specs.Expressions.{Spells, literal, yes, no, name, element, target, parens, minus, negation, input, result, one, more, compare, SpellsArg, by_value}
use Rattle.oc_grammar.specs.Expressions.{by_shared, by_mutable, SpellsArgs, closed, last, further, SpellsWhole}
use Rattle.oc_grammar.specs.Statements.{SpellsScalar, int_scalar, bool_scalar, SpellsArray, an_array, SpellsType, int_type, bool_type, array_type, SpellsConst, positive, negative}
use Rattle.oc_grammar.specs.Statements.{SpellsRight, a_right, SpellsMut, with_mut, without_mut, SpellsNote, typed, untyped, LetHead, let_head, SpellsSimple, let_right, let_fill}
use Rattle.oc_grammar.specs.Statements.{assigns, assigns_index, assigns_deref, calls, senses, emits, marks_fresh, marks_consistent, returns, Position, SpellsKind, simple, if_form}
use Rattle.oc_grammar.specs.Statements.{for_form, while_form, atomic_form, SpellsElse, without, otherwise, else_if, SpellsStmt, statement, SpellsBlock, braces, SpellsStmts, end}
use Rattle.oc_grammar.specs.Statements.{first}
use Rattle.oc_grammar.specs.Programs.{SpellsPassing, itself, shared_ref, mutable_ref, SpellsParam, a_param, SpellsParams, no_param, last_param, further_params, SpellsResult}
use Rattle.oc_grammar.specs.Programs.{no_result, a_result, SpellsFunction, a_function, SpellsCells, one_cell, array_cells, SpellsNv, an_nv, SpellsItem, sensor_item, port_item}
use Rattle.oc_grammar.specs.Programs.{nv_item, function_item, SpellsItems, no_item, an_item, SpellsProgram}
use Rattle.oc_grammar.specs.Plain.{plain, without_atomic, IsPlain, SourcesArePlain, AtomicIsIfTrue, BeginsAlike}

-- ---- what stands in front

name_plain : {x : Text} {from rest : Lexemes} → Named x from rest → Named x (without_atomic from) (without_atomic rest)
name_plain a_name = a_name

number_plain : {z : ℤ} {from rest : Lexemes} → Numeral z from rest → Numeral z (without_atomic from) (without_atomic rest)
number_plain a_numeral = a_numeral

sign_plain : {m : Mark} {from rest : Lexemes} → Sign m from rest → Sign m (without_atomic from) (without_atomic rest)
sign_plain a_sign = a_sign

keyword_plain : {w : Word} {from rest : Lexemes} → is_atomic w ≡ false → Keyword w from rest → Keyword w (without_atomic from) (without_atomic rest)
keyword_plain e a_keyword = rw e a_keyword

-- in the place of `atomic`
record IfTrue (from rest : Lexemes) : Type 0 where
  behind : Lexemes
  word : Keyword words.If from behind
  condition : Keyword words.True behind rest

atomic_plain : {from rest : Lexemes} → Keyword words.Atomic from rest → IfTrue (without_atomic from) (without_atomic rest)
atomic_plain a_keyword = record { behind = _; word = a_keyword; condition = a_keyword }

infix_by : {op : BinaryOp} {level : ℕ} (token : Lexeme) (rest : Lexemes) → infix_of token ≡ Some (op, level) → Infix op level (without_atomic (token ∷ rest)) (without_atomic rest)
infix_by (named line x) rest e = cc e
infix_by (numeral line z) rest e = cc e
infix_by (keyword line w) rest e = cc e
infix_by (sign line m) rest e = an_operator e
infix_by (reserved line) rest e = cc e

infix_plain : {op : BinaryOp} {level : ℕ} {from rest : Lexemes} → Infix op level from rest → Infix op level (without_atomic from) (without_atomic rest)
infix_plain (an_operator {token = token} {rest = rest} e) = infix_by token rest e

front_by : (line : ℕ) (w : Word) (ts : Lexemes) (b : Bool) → line ≡ front_line (cond b (keyword line words.If ∷ keyword line words.True ∷ []) (keyword line w ∷ []) ++ ts)
front_by line w ts true = refl
front_by line w ts false = refl

front_plain : (ts : Lexemes) → front_line ts ≡ front_line (without_atomic ts)
front_plain [] = refl
front_plain (named line x ∷ ts) = refl
front_plain (numeral line z ∷ ts) = refl
front_plain (keyword line w ∷ ts) = front_by line w (without_atomic ts) (is_atomic w)
front_plain (sign line m ∷ ts) = refl
front_plain (reserved line ∷ ts) = refl

-- ---- constants and types

const_plain : {z : ℤ} {from rest : Lexemes} → SpellsConst z from rest → SpellsConst z (without_atomic from) (without_atomic rest)
const_plain (positive i) = positive (number_plain i)
const_plain (negative s i) = negative (sign_plain s) (number_plain i)

array_plain : {n : ℕ} {from rest : Lexemes} → SpellsArray n from rest → SpellsArray n (without_atomic from) (without_atomic rest)
array_plain (an_array o w s i c) = an_array (sign_plain o) (keyword_plain refl w) (sign_plain s) (number_plain i) (sign_plain c)

type_plain : {k : ValueKind} {from rest : Lexemes} → SpellsType k from rest → SpellsType k (without_atomic from) (without_atomic rest)
type_plain (int_type w) = int_type (keyword_plain refl w)
type_plain (bool_type w) = bool_type (keyword_plain refl w)
type_plain (array_type a) = array_type (array_plain a)

note_plain : {k : Option ValueKind} {from rest : Lexemes} → SpellsNote k from rest → SpellsNote k (without_atomic from) (without_atomic rest)
note_plain (typed s k) = typed (sign_plain s) (type_plain k)
note_plain untyped = untyped

-- ---- expressions

mutual
  expr_plain : {limits : Limits} {room level : ℕ} {e : TExpr} {from rest : Lexemes} → Spells limits room level e from rest → Spells limits room level e (without_atomic from) (without_atomic rest)
  expr_plain (literal i) = literal (number_plain i)
  expr_plain (yes k) = yes (keyword_plain refl k)
  expr_plain (no k) = no (keyword_plain refl k)
  expr_plain (name i) = name (name_plain i)
  expr_plain (element i s d k) = element (name_plain i) (sign_plain s) (expr_plain d) (sign_plain k)
  expr_plain (target s i) = target (sign_plain s) (name_plain i)
  expr_plain (parens s d k) = parens (sign_plain s) (expr_plain d) (sign_plain k)
  expr_plain (minus s d) = minus (sign_plain s) (expr_plain d)
  expr_plain (negation s d) = negation (sign_plain s) (expr_plain d)
  expr_plain (input k o i c) = input (keyword_plain refl k) (sign_plain o) (name_plain i) (sign_plain c)
  expr_plain (result i o d) = result (name_plain i) (sign_plain o) (args_plain d)
  expr_plain (one d) = one (expr_plain d)
  expr_plain (more ne d o e) = more ne (expr_plain d) (infix_plain o) (expr_plain e)
  expr_plain (compare d o e) = compare (expr_plain d) (infix_plain o) (expr_plain e)

  arg_plain : {limits : Limits} {room : ℕ} {arg : TArg} {from rest : Lexemes} → SpellsArg limits room arg from rest → SpellsArg limits room arg (without_atomic from) (without_atomic rest)
  arg_plain (by_value d few) = by_value (expr_plain d) few
  arg_plain (by_shared s i) = by_shared (sign_plain s) (name_plain i)
  arg_plain (by_mutable s k i) = by_mutable (sign_plain s) (keyword_plain refl k) (name_plain i)

  args_plain : {limits : Limits} {room : ℕ} {args : TArgs} {from rest : Lexemes} → SpellsArgs limits room args from rest → SpellsArgs limits room args (without_atomic from) (without_atomic rest)
  args_plain (closed s) = closed (sign_plain s)
  args_plain (last d s) = last (arg_plain d) (sign_plain s)
  args_plain (further d s e) = further (arg_plain d) (sign_plain s) (args_plain e)

whole_plain : {limits : Limits} {e : TExpr} {from rest : Lexemes} → SpellsWhole limits e from rest → SpellsWhole limits e (without_atomic from) (without_atomic rest)
whole_plain w = record { spelled = expr_plain w.spelled; few = w.few }

-- ---- statements

right_plain : {limits : Limits} {r : TRight} {from rest : Lexemes} → SpellsRight limits r from rest → SpellsRight limits r (without_atomic from) (without_atomic rest)
right_plain (a_right w s) = a_right (whole_plain w) (sign_plain s)

mut_plain : {m : Bool} {from rest : Lexemes} → SpellsMut m from rest → SpellsMut m (without_atomic from) (without_atomic rest)
mut_plain (with_mut k) = with_mut (keyword_plain refl k)
mut_plain without_mut = without_mut

head_plain : {m : Bool} {x : Text} {k : Option ValueKind} {from rest : Lexemes} → LetHead m x k from rest → LetHead m x k (without_atomic from) (without_atomic rest)
head_plain (let_head w m i t s) = let_head (keyword_plain refl w) (mut_plain m) (name_plain i) (note_plain t) (sign_plain s)

simple_plain : {limits : Limits} {k : TKind} {from rest : Lexemes} → SpellsSimple limits k from rest → SpellsSimple limits k (without_atomic from) (without_atomic rest)
simple_plain (let_right d r) = let_right (head_plain d) (right_plain r)
simple_plain (let_fill d o i s n c t) = let_fill (head_plain d) (sign_plain o) (const_plain i) (sign_plain s) (number_plain n) (sign_plain c) (sign_plain t)
simple_plain (assigns i s r) = assigns (name_plain i) (sign_plain s) (right_plain r)
simple_plain (assigns_index i o w c s r) = assigns_index (name_plain i) (sign_plain o) (whole_plain w) (sign_plain c) (sign_plain s) (right_plain r)
simple_plain (assigns_deref o i s r) = assigns_deref (sign_plain o) (name_plain i) (sign_plain s) (right_plain r)
simple_plain (calls i o d s) = calls (name_plain i) (sign_plain o) (args_plain d) (sign_plain s)
simple_plain (senses k o i c s) = senses (keyword_plain refl k) (sign_plain o) (name_plain i) (sign_plain c) (sign_plain s)
simple_plain (emits k o i m w c s) = emits (keyword_plain refl k) (sign_plain o) (name_plain i) (sign_plain m) (whole_plain w) (sign_plain c) (sign_plain s)
simple_plain (marks_fresh k o i c s) = marks_fresh (keyword_plain refl k) (sign_plain o) (name_plain i) (sign_plain c) (sign_plain s)
simple_plain (marks_consistent k o i m n c s) = marks_consistent (keyword_plain refl k) (sign_plain o) (name_plain i) (sign_plain m) (number_plain n) (sign_plain c) (sign_plain s)
simple_plain (returns k w s) = returns (keyword_plain refl k) (whole_plain w) (sign_plain s)

abbrev plainly_at : Position → Position
plainly_at p = (p.0, p.1, without_atomic p.2)

true_whole : {limits : Limits} {from rest : Lexemes} → Keyword words.True from rest → SpellsWhole limits (truth true) from rest
true_whole k = record { spelled = one (one (one (one (one (yes k))))); few = omega arith }

mutual
  kind_plain : {limits : Limits} {room : ℕ} {k : TKind} {p q : Position} → SpellsKind limits room k p q → SpellsKind limits room k (plainly_at p) (plainly_at q)
  kind_plain (simple d) = simple (simple_plain d)
  kind_plain (if_form k c t o) = if_form (keyword_plain refl k) (whole_plain c) (block_plain t) (else_plain o)
  kind_plain (for_form k i n c r d t) = for_form (keyword_plain refl k) (name_plain i) (keyword_plain refl n) (const_plain c) (sign_plain r) (const_plain d) (block_plain t)
  kind_plain (while_form k c w i t) = while_form (keyword_plain refl k) (whole_plain c) (keyword_plain refl w) (number_plain i) (block_plain t)
  kind_plain (atomic_form k t) = let i = atomic_plain k in if_form i.word (true_whole i.condition) (block_plain t) without

  else_plain : {limits : Limits} {room : ℕ} {o : TElse} {p q : Position} → SpellsElse limits room o p q → SpellsElse limits room o (plainly_at p) (plainly_at q)
  else_plain without = without
  else_plain (otherwise k t) = otherwise (keyword_plain refl k) (block_plain t)
  else_plain (else_if k l d) = else_if (keyword_plain refl k) (keyword_plain refl l) (stmt_plain d)

  stmt_plain : {limits : Limits} {room : ℕ} {s : TStmt} {p q : Position} → SpellsStmt limits room s p q → SpellsStmt limits room s (plainly_at p) (plainly_at q)
  stmt_plain (statement {from = from} d) = rw (front_plain from) (statement (kind_plain d))

  block_plain : {limits : Limits} {room : ℕ} {t : TBlock} {p q : Position} → SpellsBlock limits room t p q → SpellsBlock limits room t (plainly_at p) (plainly_at q)
  block_plain (braces s d) = braces (sign_plain s) (stmts_plain d)

  stmts_plain : {limits : Limits} {room : ℕ} {ss : TStmts} {p q : Position} → SpellsStmts limits room ss p q → SpellsStmts limits room ss (plainly_at p) (plainly_at q)
  stmts_plain (end s) = end (sign_plain s)
  stmts_plain (first d e) = first (stmt_plain d) (stmts_plain e)

-- ---- functions and declarations

passing_plain : {p : Passing} {from rest : Lexemes} → SpellsPassing p from rest → SpellsPassing p (without_atomic from) (without_atomic rest)
passing_plain itself = itself
passing_plain (shared_ref s) = shared_ref (sign_plain s)
passing_plain (mutable_ref s k) = mutable_ref (sign_plain s) (keyword_plain refl k)

param_plain : {p : Param} {from rest : Lexemes} → SpellsParam p from rest → SpellsParam p (without_atomic from) (without_atomic rest)
param_plain (a_param i s g t) = a_param (name_plain i) (sign_plain s) (passing_plain g) (type_plain t)

params_plain : {ps : List Param} {from rest : Lexemes} → SpellsParams ps from rest → SpellsParams ps (without_atomic from) (without_atomic rest)
params_plain (no_param s) = no_param (sign_plain s)
params_plain (last_param d s) = last_param (param_plain d) (sign_plain s)
params_plain (further_params d s e) = further_params (param_plain d) (sign_plain s) (params_plain e)

scalar_plain : {s : Scalar} {from rest : Lexemes} → SpellsScalar s from rest → SpellsScalar s (without_atomic from) (without_atomic rest)
scalar_plain (int_scalar k) = int_scalar (keyword_plain refl k)
scalar_plain (bool_scalar k) = bool_scalar (keyword_plain refl k)

result_plain : {r : Option Scalar} {from rest : Lexemes} → SpellsResult r from rest → SpellsResult r (without_atomic from) (without_atomic rest)
result_plain no_result = no_result
result_plain (a_result s d) = a_result (sign_plain s) (scalar_plain d)

function_plain : {limits : Limits} {f : TFunction} {p q : Position} → SpellsFunction limits f p q → SpellsFunction limits f (plainly_at p) (plainly_at q)
function_plain (a_function {from = from} w i o ps r t) = rw (front_plain from) (a_function (keyword_plain refl w) (name_plain i) (sign_plain o) (params_plain ps) (result_plain r) (block_plain t))

cells_plain : {n : ℕ} {array : Bool} {from rest : Lexemes} → SpellsCells n array from rest → SpellsCells n array (without_atomic from) (without_atomic rest)
cells_plain (one_cell k) = one_cell (keyword_plain refl k)
cells_plain (array_cells d) = array_cells (array_plain d)

nv_plain : {x : Text} {d : NvDecl} {from rest : Lexemes} → SpellsNv x d from rest → SpellsNv x d (without_atomic from) (without_atomic rest)
nv_plain (an_nv w i s c e z t) = an_nv (keyword_plain refl w) (name_plain i) (sign_plain s) (cells_plain c) (sign_plain e) (const_plain z) (sign_plain t)

-- ---- programs

item_plain : {limits : Limits} {p q : TProgram} {x y : Position} → SpellsItem limits p x q y → SpellsItem limits p (plainly_at x) q (plainly_at y)
item_plain (sensor_item {from = from} w i s) = rw (front_plain from) (sensor_item (keyword_plain refl w) (name_plain i) (sign_plain s))
item_plain (port_item {from = from} w i s) = rw (front_plain from) (port_item (keyword_plain refl w) (name_plain i) (sign_plain s))
item_plain (nv_item {from = from} n) = rw (front_plain from) (nv_item (nv_plain n))
item_plain (function_item d) = function_item (function_plain d)

items_plain : {limits : Limits} {p r : TProgram} {x : Position} → SpellsItems limits p x r → SpellsItems limits p (plainly_at x) r
items_plain no_item = no_item
items_plain (an_item d e) = an_item (item_plain d) (items_plain e)

last_by : (line : ℕ) (w : Word) (b : Bool) → line ≡ last_line (cond b (keyword line words.If ∷ keyword line words.True ∷ []) (keyword line w ∷ []) ++ [])
last_by line w true = refl
last_by line w false = refl

last_of_one : (t : Lexeme) → line_of t ≡ last_line (plain t ++ [])
last_of_one (named line x) = refl
last_of_one (numeral line z) = refl
last_of_one (keyword line w) = last_by line w (is_atomic w)
last_of_one (sign line m) = refl
last_of_one (reserved line) = refl

-- a list that isn't empty
record Grown (ts : Lexemes) : Type 0 where
  front : Lexeme
  behind : Lexemes
  is : ts ≡ front ∷ behind

grown_by : (line : ℕ) (w : Word) (ts : Lexemes) (b : Bool) → Grown (cond b (keyword line words.If ∷ keyword line words.True ∷ []) (keyword line w ∷ []) ++ ts)
grown_by line w ts true = record { front = _; behind = _; is = refl }
grown_by line w ts false = record { front = _; behind = _; is = refl }

grown : (t : Lexeme) (ts : Lexemes) → Grown (plain t ++ ts)
grown (named line x) ts = record { front = _; behind = _; is = refl }
grown (numeral line z) ts = record { front = _; behind = _; is = refl }
grown (keyword line w) ts = grown_by line w ts (is_atomic w)
grown (sign line m) ts = record { front = _; behind = _; is = refl }
grown (reserved line) ts = record { front = _; behind = _; is = refl }

behind_by : (line : ℕ) (w : Word) (b : Bool) (u : Lexeme) (us : Lexemes) → last_line (cond b (keyword line words.If ∷ keyword line words.True ∷ []) (keyword line w ∷ []) ++ u ∷ us)
    ≡ last_line (u ∷ us)
behind_by line w true u us = refl
behind_by line w false u us = refl

last_behind : (t u : Lexeme) (us : Lexemes) → last_line (plain t ++ u ∷ us) ≡ last_line (u ∷ us)
last_behind (named line x) u us = refl
last_behind (numeral line z) u us = refl
last_behind (keyword line w) u us = behind_by line w (is_atomic w) u us
last_behind (sign line m) u us = refl
last_behind (reserved line) u us = refl

last_plain : (ts : Lexemes) → last_line ts ≡ last_line (without_atomic ts)
last_plain [] = refl
last_plain (t ∷ []) = last_of_one t
last_plain (t ∷ u ∷ ts) =
    let g = grown u (without_atomic ts) in
    last_plain (u ∷ ts) ∙ ap (λ (l : Lexemes). last_line l) g.is ∙ sym (last_behind t g.front g.behind) ∙ ap (λ (l : Lexemes). last_line (plain t ++ l)) (sym g.is)

pub atomic_is_if_true : AtomicIsIfTrue
atomic_is_if_true limits p tokens d = rw (sym (last_plain tokens)) (items_plain d)

-- ---- what begins a program

plain_append : (xs ys : Lexemes) → without_atomic (xs ++ ys) ≡ without_atomic xs ++ without_atomic ys
plain_append [] ys = refl
plain_append (x ∷ xs) ys = ap (λ (l : Lexemes). plain x ++ l) (plain_append xs ys) ∙ sym (append_assoc (plain x) (without_atomic xs) (without_atomic ys))

twice_by : (line : ℕ) (w : Word) (b : Bool) → is_atomic w ≡ b → IsPlain (cond b (keyword line words.If ∷ keyword line words.True ∷ []) (keyword line w ∷ []))
twice_by line w true e = refl
twice_by line w false e = rw e refl

twice : (t : Lexeme) → IsPlain (plain t)
twice (named line x) = refl
twice (numeral line z) = refl
twice (keyword line w) = twice_by line w (is_atomic w) refl
twice (sign line m) = refl
twice (reserved line) = refl

is_plain : (ts : Lexemes) → IsPlain (without_atomic ts)
is_plain [] = refl
is_plain (t ∷ ts) = plain_append (plain t) (without_atomic ts) ∙ ap (λ (l : Lexemes). l ++ without_atomic (without_atomic ts)) (twice t) ∙ ap (λ (l : Lexemes). plain t ++ l) (is_plain ts)

pub begins_alike : BeginsAlike
begins_alike limits tokens h b = record {
  more = without_atomic b.more;
  program = b.program;
  plainly = is_plain b.more;
  spelled = subst (λ (l : Lexemes). SpellsProgram limits b.program l) (plain_append tokens b.more ∙ ap (λ (l : Lexemes). l ++ without_atomic b.more) h)
      (atomic_is_if_true limits b.program (tokens ++ b.more) b.spelled);
}

word_plain : (line : ℕ) (w : Word) (b : Bool) → is_atomic w ≡ b → (ts : Lexemes) → without_atomic (cond (says false w) (keyword line w) (reserved line) ∷ ts)
    ≡ cond (says false w) (keyword line w) (reserved line) ∷ without_atomic ts
word_plain line w true e ts = rw e refl
word_plain line w false e ts = rw e (rw e refl)

lexeme_plain : (line : ℕ) (text : Text) (k : Kind) (ts : Lexemes) → without_atomic (lexeme_by false line text k ∷ ts) ≡ lexeme_by false line text k ∷ without_atomic ts
lexeme_plain line text kinds.Name ts = refl
lexeme_plain line text (kinds.Number v) ts = refl
lexeme_plain line text (kinds.Word w) ts = word_plain line w (is_atomic w) refl ts
lexeme_plain line text (kinds.Mark m) ts = refl

pub sources_are_plain : SourcesArePlain
sources_are_plain source [] = refl
sources_are_plain source (t ∷ ts) = lexeme_plain t.line _ t.kind (lexemes_of source ts) ∙ ap (λ (l : Lexemes). lexeme_of false source t ∷ l) (sources_are_plain source ts)
