-- A program has no more nodes of expressions than tokens.
use Rattle.std.proofs.Common.{◌≡◌, ℕ, ◌+◌, ◌≤◌, List, [], ◌∷◌, ◌++◌, length, refl, ◌∙◌, arith, zero-add}
use Rattle.std.proofs.lemmas.List.Sums.{sum_by-append}
use Rattle.std.specs.Prelude.{sum_by}
use Rattle.oc_tree.specs.Tree.{TExpr, number, truth, variable, index, deref, unary, binary, sensed, called, TArg, TArgs, TRight, TKind, TElse, TStmt, TBlock, TStmts, TFunction, TProgram}
use Rattle.oc_tree.specs.Nodes.{expr_nodes, arg_nodes, args_nodes, right_nodes, kind_nodes, else_nodes, stmt_nodes, block_nodes, stmts_nodes, program_nodes}
use Rattle.oc_grammar.specs.Limits.{Limits}
use Rattle.oc_grammar.specs.Lexemes.{Lexemes}
use Rattle.oc_grammar.specs.Expressions.{Spells, literal, yes, no, name, element, target, parens, minus, negation, input, result, one, more, compare, SpellsArg, by_value}
use Rattle.oc_grammar.specs.Expressions.{by_shared, by_mutable, SpellsArgs, closed, last, further}
use Rattle.oc_grammar.specs.Statements.{right_of, SpellsRight, a_right, SpellsSimple, let_right, let_fill, assigns, assigns_index, assigns_deref, calls, senses, emits, marks_fresh}
use Rattle.oc_grammar.specs.Statements.{marks_consistent, returns, Position, SpellsKind, simple, if_form, for_form, while_form, atomic_form, SpellsElse, without, otherwise, else_if}
use Rattle.oc_grammar.specs.Statements.{SpellsStmt, statement, SpellsBlock, braces, SpellsStmts, end, first}
use Rattle.oc_grammar.specs.Programs.{SpellsFunction, a_function, SpellsItem, sensor_item, port_item, nv_item, function_item, SpellsItems, no_item, an_item, SpellsProgram}
use Rattle.oc_grammar.proofs.FrontLaws.{sign_shorter, keyword_shorter, name_shorter, number_shorter, infix_shorter}
use Rattle.oc_grammar.proofs.SimpleLaws.{simple_shorter, const_shorter, head_shorter}
use Rattle.oc_grammar.proofs.ProgramLaws.{params_shorter, result_shorter, item_shorter}

right_fewer : (e : TExpr) → right_nodes (right_of e) ≤ expr_nodes e
right_fewer (sensed s) = omega arith
right_fewer x = omega arith

one_more : (fs : List TFunction) (f : TFunction) → sum_by (λ f. block_nodes f.body) (fs ++ f ∷ []) ≡ sum_by (λ f. block_nodes f.body) fs + block_nodes f.body
one_more fs f = sum_by-append (λ f. block_nodes f.body) fs (f ∷ []) ∙ rw zero-add refl

module _ (limits : Limits) where
  mutual
    expr_within : {room level : ℕ} {e : TExpr} {from rest : Lexemes} → Spells limits room level e from rest → expr_nodes e + length rest ≤ length from
    expr_within (literal i) = let h = number_shorter i in omega arith
    expr_within (yes i) = let h = keyword_shorter i in omega arith
    expr_within (no i) = let h = keyword_shorter i in omega arith
    expr_within (name i) = let h = name_shorter i in omega arith
    expr_within (element i s d k) = let h = name_shorter i in let g = sign_shorter s in let f = expr_within d in let l = sign_shorter k in omega arith
    expr_within (target s i) = let h = sign_shorter s in let g = name_shorter i in omega arith
    expr_within (parens s d k) = let h = sign_shorter s in let g = expr_within d in let f = sign_shorter k in omega arith
    expr_within (minus s d) = let h = sign_shorter s in let g = expr_within d in omega arith
    expr_within (negation s d) = let h = sign_shorter s in let g = expr_within d in omega arith
    expr_within (input k o i c) = let h = keyword_shorter k in let g = sign_shorter o in let f = name_shorter i in let l = sign_shorter c in omega arith
    expr_within (result i o d) = let h = name_shorter i in let g = sign_shorter o in let f = args_within d in omega arith
    expr_within (one d) = expr_within d
    expr_within (more ne d o e) = let h = expr_within d in let g = infix_shorter o in let f = expr_within e in omega arith
    expr_within (compare d o e) = let h = expr_within d in let g = infix_shorter o in let f = expr_within e in omega arith

    arg_within : {room : ℕ} {arg : TArg} {from rest : Lexemes} → SpellsArg limits room arg from rest → arg_nodes arg + length rest ≤ length from
    arg_within (by_value d few) = expr_within d
    arg_within (by_shared s i) = let h = sign_shorter s in let g = name_shorter i in omega arith
    arg_within (by_mutable s k i) = let h = sign_shorter s in let f = keyword_shorter k in let g = name_shorter i in omega arith

    args_within : {room : ℕ} {args : TArgs} {from rest : Lexemes} → SpellsArgs limits room args from rest → args_nodes args + length rest ≤ length from
    args_within (closed s) = let h = sign_shorter s in omega arith
    args_within (last d s) = let h = arg_within d in let g = sign_shorter s in omega arith
    args_within (further d s e) = let h = arg_within d in let g = sign_shorter s in let f = args_within e in omega arith

  right_within : {r : TRight} {from rest : Lexemes} → SpellsRight limits r from rest → right_nodes r + length rest ≤ length from
  right_within (a_right {e = e} d s) = let h = expr_within d.spelled in let g = sign_shorter s in let f = right_fewer e in omega arith

  simple_within : {k : TKind} {from rest : Lexemes} → SpellsSimple limits k from rest → kind_nodes k + length rest ≤ length from
  simple_within (let_right h r) = let a = head_shorter h in let b = right_within r in omega arith
  simple_within (let_fill h o i s n c t) = let a = simple_shorter limits (let_fill h o i s n c t) in omega arith
  simple_within (assigns i s r) = let a = name_shorter i in let b = sign_shorter s in let c = right_within r in omega arith
  simple_within (assigns_index i o w c s r) = let a = name_shorter i in let b = sign_shorter o in let d = expr_within w.spelled in let e = sign_shorter c in let f =
      sign_shorter s in let g = right_within r in omega arith
  simple_within (assigns_deref o i s r) = let a = sign_shorter o in let b = name_shorter i in let c = sign_shorter s in let d = right_within r in omega arith
  simple_within (calls i o d s) = let a = name_shorter i in let b = sign_shorter o in let c = args_within d in let e = sign_shorter s in omega arith
  simple_within (senses k o i c s) = let a = simple_shorter limits (senses k o i c s) in omega arith
  simple_within (emits k o i m w c s) = let a = keyword_shorter k in let b = sign_shorter o in let d = name_shorter i in let e = sign_shorter m in let f = expr_within w.spelled in
      let g = sign_shorter c in let h = sign_shorter s in omega arith
  simple_within (marks_fresh k o i c s) = let a = simple_shorter limits (marks_fresh k o i c s) in omega arith
  simple_within (marks_consistent k o i m n c s) = let a = simple_shorter limits (marks_consistent k o i m n c s) in omega arith
  simple_within (returns k w s) = let a = keyword_shorter k in let b = expr_within w.spelled in let c = sign_shorter s in omega arith

  mutual
    kind_within : {room : ℕ} {k : TKind} {p q : Position} → SpellsKind limits room k p q → kind_nodes k + length q.2 ≤ length p.2
    kind_within (simple d) = simple_within d
    kind_within (if_form k c t o) = let a = keyword_shorter k in let d = expr_within c.spelled in let e = block_within t in let f = else_within o in omega arith
    kind_within (for_form k i n c r d t) = let a = keyword_shorter k in let b = name_shorter i in let e = keyword_shorter n in let f = const_shorter c in let g = sign_shorter r in
        let h = const_shorter d in let l = block_within t in omega arith
    kind_within (while_form k c w i t) = let a = keyword_shorter k in let b = expr_within c.spelled in let d = keyword_shorter w in let e = number_shorter i in let f = block_within t in omega arith
    kind_within (atomic_form k t) = let a = keyword_shorter k in let b = block_within t in omega arith

    else_within : {room : ℕ} {o : TElse} {p q : Position} → SpellsElse limits room o p q → else_nodes o + length q.2 ≤ length p.2
    else_within without = omega arith
    else_within (otherwise k t) = let a = keyword_shorter k in let b = block_within t in omega arith
    else_within (else_if k l d) = let a = keyword_shorter k in let b = stmt_within d in omega arith

    stmt_within : {room : ℕ} {s : TStmt} {p q : Position} → SpellsStmt limits room s p q → stmt_nodes s + length q.2 ≤ length p.2
    stmt_within (statement d) = kind_within d

    block_within : {room : ℕ} {t : TBlock} {p q : Position} → SpellsBlock limits room t p q → block_nodes t + length q.2 ≤ length p.2
    block_within (braces s d) = let a = sign_shorter s in let b = stmts_within d in omega arith

    stmts_within : {room : ℕ} {ss : TStmts} {p q : Position} → SpellsStmts limits room ss p q → stmts_nodes ss + length q.2 ≤ length p.2
    stmts_within (end s) = let a = sign_shorter s in omega arith
    stmts_within (first d e) = let a = stmt_within d in let b = stmts_within e in omega arith

  function_within : {f : TFunction} {p q : Position} → SpellsFunction limits f p q → block_nodes f.body + length q.2 ≤ length p.2
  function_within (a_function w i o ps r t) = let a = keyword_shorter w in let b = name_shorter i in let c = sign_shorter o in let d = params_shorter ps in let e =
      result_shorter r in let f = block_within t in omega arith

  item_within : {p q : TProgram} {x y : Position} → SpellsItem limits p x q y → program_nodes q + length y.2 ≤ program_nodes p + length x.2
  item_within (sensor_item w i s) = let a = keyword_shorter w in let b = name_shorter i in let c = sign_shorter s in omega arith
  item_within (port_item w i s) = let a = keyword_shorter w in let b = name_shorter i in let c = sign_shorter s in omega arith
  item_within (nv_item {p = p} {n = n} {b = b} d) = let a = item_shorter limits (nv_item {p = p} {n = n} {b = b} d) in omega arith
  item_within (function_item {p = p} {f = f} d) = let a = function_within d in let b = one_more p.functions f in omega arith

  items_within : {p r : TProgram} {x : Position} → SpellsItems limits p x r → program_nodes r ≤ program_nodes p + length x.2
  items_within no_item = omega arith
  items_within (an_item d e) = let a = item_within d in let b = items_within e in omega arith

  pub nodes_within : (ts : Lexemes) (p : TProgram) → SpellsProgram limits p ts → program_nodes p ≤ length ts
  nodes_within ts p d = let a = items_within d in omega arith
