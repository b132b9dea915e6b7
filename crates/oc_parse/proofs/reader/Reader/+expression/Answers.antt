use Rattle.std.proofs.Common.{rules, ◌≡◌, ◌≢◌, ℕ, ◌-◌, true, false, List, [], ◌∷◌, ◌++◌, map, refl, sym, ap, ◌∙◌, arith}
use Rattle.std.proofs.lemmas.Result.{err_from_is_err_and}
use Rattle.std.proofs.lemmas.List.{map_push}
use Rattle.oc_tree.specs.Tree.{index, unary, binary}
use Rattle.oc_tree.specs.View.{arg_view, expr_view}
use Rattle.oc_tree.specs.declared.tree.Arg.{Arg}
use Rattle.oc_grammar.specs.Limits.{the_depths}
use Rattle.oc_grammar.specs.ReadingExpressions.{prefix_by, element_by, prefixed_at, inner_at, chain, level_at, args_at, arg_at, named_at}
use Rattle.oc_grammar.proofs.ExpressionLaws.{most_other}
use Rattle.oc_parse.specs.Parts.{operations_at, operation_at, after}
use Rattle.oc_parse.specs.Steps.{left, infix_front}
use Rattle.oc_parse.proofs.Loops.{stopped_along, made, list_goes_on, list_last, list_closes, list_stops, alone, args_shorten, level_zero, level_more, level_alone, levels_unread, levels_stop, none_is}
use Rattle.oc_parse.proofs.Loops.{operation_turn, turn_stops, spend_stops, operand_is, operand_stops, operation_is, comparison_is, level_ends, prefixed_stops, prefixed_read, element_is, element_stops, value_read, reference_read}
use Rattle.oc_parse.proofs.Views.{view_called, view_call, view_value, view_shared, view_mutable}
use Rattle.oc_parse.proofs.reader.Reader.+expression.Goals as goal

pub level-loop-below-init : goal.level-loop-below-init
level-loop-below-init t c =
    (level_zero 0 c.args.room c.args.operators.now (left c.args.self.now) refl ∙ c.in_ok-tree.ensures.exact, c.in_ok-tree.ensures.shorter)

pub level-loop-below-preserved : goal.level-loop-below-preserved
level-loop-below-preserved t c = (
  level_more c.loop-below.below c.args.room c.args.operators.now (left c.args.self.now) (expr_view c.loop-below.tree) c.loop-below.operators (left c.loop-below.self)
      (expr_view c.in_ok-tree-2.tree, c.operations.new.operators, left c.operations.new.self) c.loop-below.invariant.0 c.in_ok-tree-2.ensures.exact,
  omega (arith, c.loop-below.invariant.1, c.in_ok-tree-2.ensures.shorter),
)

pub level-returns-then-not-operator_stands-clause-exact : goal.level-returns-then-not-operator_stands-clause-exact
level-returns-then-not-operator_stands-clause-exact t c =
    level_alone c.args.level c.loop-below.below c.args.room c.args.operators.now (left c.args.self.now) (expr_view c.loop-below.tree) c.loop-below.operators (left c.loop-below.self)
    (omega arith) (none_is (infix_front (left c.loop-below.self)) (sym c.operator_stands.ensures ∙ c.if-not-operator_stands.true)) c.loop-below.invariant.0

pub level-returns-in_err-tree-clause-exact : goal.level-returns-in_err-tree-clause-exact
level-returns-in_err-tree-clause-exact t c =
    let p = err_from_is_err_and c.from_residual.result c.from_residual.ensures.1 in
    rw (p.1, p.2) (levels_unread c.args.level c.args.room c.args.operators.now (left c.args.self.now) c.in_err-tree.field-0.0 c.in_err-tree.ensures.exact)

pub level-returns-in_err-tree-2-clause-exact : goal.level-returns-in_err-tree-2-clause-exact
level-returns-in_err-tree-2-clause-exact t c =
    let p = err_from_is_err_and c.from_residual-in_err-tree-2.result c.from_residual-in_err-tree-2.ensures.1 in
    rw (p.1, p.2) (levels_stop c.args.level c.loop-below.below c.args.room c.args.operators.now (left c.args.self.now) (expr_view c.loop-below.tree) c.loop-below.operators (left c.loop-below.self)
    c.in_err-tree-2.field-0.0 (omega arith) c.loop-below.invariant.0 c.in_err-tree-2.ensures.exact)

pub operations-returns-in_err-tree-clause-exact : goal.operations-returns-in_err-tree-clause-exact
operations-returns-in_err-tree-clause-exact t c =
    let p = err_from_is_err_and c.from_residual.result c.from_residual.ensures.1 in
    rw (p.1, p.2) (turn_stops c.args.level c.args.room (expr_view c.loop-op.tree) c.loop-op.operators (left c.loop-op.self) c.in-Some.op
    (left c.operator.new.self) c.in_err-tree.field-0.0 (operations_at c.args.level c.args.room (expr_view c.args.first) c.args.operators.now (left c.args.self.now)) c.in-Some.ensures.exact
    c.in_err-tree.ensures.exact c.loop-op.invariant.0)

pub operations-loop-op-init : goal.operations-loop-op-init
operations-loop-op-init t c =
    let other : c.args.level ≢ 3 = search rules in
    let m = most_other c.args.level (left c.args.self.now) other in
    (ap (λ (k : ℕ). chain c.args.level (level_at the_depths (c.args.level - 1) c.args.room) k (expr_view c.args.first) c.args.operators.now (left c.args.self.now)) (sym m), omega arith)

pub operations-loop-op-preserved : goal.operations-loop-op-preserved
operations-loop-op-preserved t c =
    let turn = operation_turn c.args.room c.args.level (expr_view c.loop-op.tree) c.loop-op.operators (left c.loop-op.self) c.in-Some.op (left c.operator.new.self)
    (expr_view c.in_ok-tree.tree, c.operation.new.operators, left c.operation.new.self) (omega arith) c.in-Some.ensures.exact c.in_ok-tree.ensures.exact in
    (sym turn ∙ c.loop-op.invariant.0, omega (arith, c.in-Some.ensures.shorter, c.in_ok-tree.ensures.shorter))

pub operations-returns-clause-exact : goal.operations-returns-clause-exact
operations-returns-clause-exact t c =
    let k : left c.operator.new.self ≡ left c.loop-op.self = c.in_default.ensures.kept in
    rw k (sym c.loop-op.invariant.0 ∙ level_ends c.args.level (level_at the_depths (c.args.level - 1) c.args.room) (expr_view c.loop-op.tree) c.loop-op.operators
    (left c.loop-op.self) c.in_default.ensures.exact)

pub comparison-returns-in-Some-clause-exact : goal.comparison-returns-in-Some-clause-exact
comparison-returns-in-Some-clause-exact t c =
    rw (comparison_is c.args.room (expr_view c.args.first) c.args.operators.now (left c.args.self.now) c.in-Some.op (left c.operator.new.self) c.in-Some.ensures.exact) c.operation.ensures.exact

pub operation-returns-in-Ok-clause-exact : goal.operation-returns-in-Ok-clause-exact
operation-returns-in-Ok-clause-exact t c =
    made c.joined.result (binary c.args.op (expr_view c.args.first) (expr_view c.in-Ok.second)) c.operand.new.operators (left c.operand.new.self)
    (operation_at c.args.level c.args.room c.args.op (expr_view c.args.first) c.args.operators.now (left c.args.self.now))
    (operation_is c.args.level c.args.room c.args.op (expr_view c.args.first) c.args.operators.now (left c.args.self.now) (expr_view c.in-Ok.second) c.operand.new.operators
    (left c.operand.new.self) c.in-Ok.ensures.exact) c.joined.ensures

pub operation-returns-in-Err-clause-exact : goal.operation-returns-in-Err-clause-exact
operation-returns-in-Err-clause-exact t c =
    operand_stops c.args.level c.args.room c.args.op (expr_view c.args.first) c.args.operators.now (left c.args.self.now) c.in-Err.error c.in-Err.ensures.exact

pub operand-returns-in_err-spend-clause-exact : goal.operand-returns-in_err-spend-clause-exact
operand-returns-in_err-spend-clause-exact t c =
    let p = err_from_is_err_and c.from_residual.result c.from_residual.ensures.1 in
    rw (p.1, p.2) (spend_stops c.args.level c.args.room c.args.operators.now (left c.args.self.now) c.in_err-spend.field-0.0 c.in_err-spend.ensures)

pub operand-returns-clause-exact : goal.operand-returns-clause-exact
operand-returns-clause-exact t c =
    rw (operand_is c.args.level c.args.room c.args.operators.now (left c.args.self.now) c.spend.new.operators c.in_ok-spend.ensures) c.level.ensures.exact

pub args-returns-in_err-add_args-clause-exact : goal.args-returns-in_err-add_args-clause-exact
args-returns-in_err-add_args-clause-exact t c =
    let p = err_from_is_err_and c.from_residual.result c.from_residual.ensures.1 in
    let read = args_at the_depths c.args.room (left c.args.self.now) in
    let none = alone (map arg_view c.new-args.result.items) read (ap (λ (l : List Arg). map arg_view l) c.new-args.ensures.items) in
    rw (p.1, p.2) (stopped_along c.in_err-add_args.field-0.0 _ read none c.in_err-add_args.ensures.exact)

pub args-returns-clause-exact : goal.args-returns-clause-exact
args-returns-clause-exact t c =
    let read = args_at the_depths c.args.room (left c.args.self.now) in
    let none = alone (map arg_view c.new-args.result.items) read (ap (λ (l : List Arg). map arg_view l) c.new-args.ensures.items) in
    sym none ∙ c.in_ok-add_args.ensures.exact

pub add_args-returns-in_err-arg-clause-exact : goal.add_args-returns-in_err-arg-clause-exact
unfolding args_at arg_at
add_args-returns-in_err-arg-clause-exact t c =
    let p = err_from_is_err_and c.from_residual.result c.from_residual.ensures.1 in
    rw (p.1, p.2) (list_stops (arg_at the_depths c.args.room) (args_shorten c.args.room) (map arg_view c.loop-self.args.items) (left c.loop-self.self) c.in_err-arg.field-0.0
    (after (map arg_view c.args.args.now.items) (args_at the_depths c.args.room (left c.args.self.now))) c.loop-self-test.ensures.exact
    (rw c.loop-self-test.ensures.kept at c.in_err-arg.ensures.exact) c.loop-self.invariant.0)

pub add_args-returns-then-not-take-clause-exact : goal.add_args-returns-then-not-take-clause-exact
unfolding args_at arg_at
add_args-returns-then-not-take-clause-exact t c =
    let e : map arg_view c.add_arg.new.args.items ≡ map arg_view c.loop-self.args.items ++ arg_view c.in_ok-arg.arg ∷ [] =
    rw c.in_ok-add_arg.ensures (map_push _ c.loop-self.args.items c.in_ok-arg.arg) in
    rw e (list_last c.expect.result (arg_at the_depths c.args.room) (args_shorten c.args.room) (map arg_view c.loop-self.args.items) (left c.loop-self.self) (arg_view c.in_ok-arg.arg)
    (left c.arg.new.self) (left c.expect.new.self) (after (map arg_view c.args.args.now.items) (args_at the_depths c.args.room (left c.args.self.now))) c.loop-self-test.ensures.exact
    (rw c.loop-self-test.ensures.kept at c.in_ok-arg.ensures.exact) c.if-not-take.ensures.exact (rw c.if-not-take.ensures.kept at c.expect.ensures.exact) c.loop-self.invariant.0)

pub add_args-loop-self-preserved : goal.add_args-loop-self-preserved
unfolding args_at arg_at
add_args-loop-self-preserved t c =
    let e : map arg_view c.add_arg.new.args.items ≡ map arg_view c.loop-self.args.items ++ arg_view c.in_ok-arg.arg ∷ [] =
    rw c.in_ok-add_arg.ensures (map_push _ c.loop-self.args.items c.in_ok-arg.arg) in (
      rw e (list_goes_on (arg_at the_depths c.args.room) (args_shorten c.args.room) (map arg_view c.loop-self.args.items) (left c.loop-self.self) (arg_view c.in_ok-arg.arg)
          (left c.arg.new.self) (left c.take-in-loop-self.new.self) (after (map arg_view c.args.args.now.items) (args_at the_depths c.args.room (left c.args.self.now)))
          c.loop-self-test.ensures.exact (rw c.loop-self-test.ensures.kept at c.in_ok-arg.ensures.exact) c.if-not-take.ensures.exact c.loop-self.invariant.0),
      omega (arith, c.loop-self-test.ensures.shorter, c.in_ok-arg.ensures.shorter, c.if-not-take.ensures.shorter),
    )

pub add_args-returns-clause-exact : goal.add_args-returns-clause-exact
unfolding args_at arg_at
add_args-returns-clause-exact t c =
    list_closes (arg_at the_depths c.args.room) (map arg_view c.loop-self.args.items) (left c.loop-self.self) (left c.take.new.self)
    (after (map arg_view c.args.args.now.items) (args_at the_depths c.args.room (left c.args.self.now))) c.loop-self-test.ensures.exact c.loop-self.invariant.0

pub element_expression-returns-in_err-place-clause-exact : goal.element_expression-returns-in_err-place-clause-exact
element_expression-returns-in_err-place-clause-exact t c =
    let p = err_from_is_err_and c.from_residual.result c.from_residual.ensures.1 in
    rw (p.1, p.2) (element_stops c.args.room c.args.array c.args.operators.now (left c.args.self.now) c.in_err-place.field-0.0 c.in_err-place.ensures.exact)

pub element_expression-returns-clause-exact : goal.element_expression-returns-clause-exact
element_expression-returns-clause-exact t c =
    made c.element.result (index c.args.array (expr_view c.in_ok-place.place)) c.enclosed.new.operators (left c.enclosed.new.self)
    (element_by (inner_at the_depths c.args.room) c.args.array c.args.operators.now (left c.args.self.now))
    (element_is c.args.room c.args.array c.args.operators.now (left c.args.self.now) (expr_view c.in_ok-place.place) c.enclosed.new.operators (left c.enclosed.new.self)
    c.in_ok-place.ensures.exact) c.element.ensures

pub name_expression-returns-then-take-clause-exact : goal.name_expression-returns-then-take-clause-exact
unfolding named_at
name_expression-returns-then-take-clause-exact t c = rw (view_called, view_call, c.if-take.ensures.exact, c.in_ok-args.ensures.exact) refl

pub prefix_expression-returns-clause-exact : goal.prefix_expression-returns-clause-exact
prefix_expression-returns-clause-exact t c =
    made c.prefixed.result (unary c.args.op (expr_view c.in_ok-inner.inner)) c.unary.new.operators (left c.unary.new.self)
    (prefix_by (prefixed_at the_depths c.args.room) c.args.op c.args.operators.now (left c.args.self.now))
    (prefixed_read c.args.room c.args.op c.args.operators.now (left c.args.self.now) (expr_view c.in_ok-inner.inner) c.unary.new.operators (left c.unary.new.self) (omega arith)
    c.in_ok-inner.ensures.exact) c.prefixed.ensures

pub prefix_expression-returns-in_err-inner-clause-exact : goal.prefix_expression-returns-in_err-inner-clause-exact
prefix_expression-returns-in_err-inner-clause-exact t c =
    let p = err_from_is_err_and c.from_residual.result c.from_residual.ensures.1 in
    rw (p.1, p.2) (prefixed_stops c.args.room c.args.op c.args.operators.now (left c.args.self.now) c.in_err-inner.field-0.0 (omega arith) c.in_err-inner.ensures.exact)

pub arg-returns-then-not-take-clause-exact : goal.arg-returns-then-not-take-clause-exact
arg-returns-then-not-take-clause-exact t c =
    rw view_value (value_read c.args.room (left c.args.self.now) (expr_view c.in_ok-value.value) (left c.part.new.self) c.if-not-take.ensures.exact
    (rw c.if-not-take.ensures.kept at c.in_ok-value.ensures.exact))

pub arg-returns-then-take_word-clause-exact : goal.arg-returns-then-take_word-clause-exact
arg-returns-then-take_word-clause-exact t c =
    rw view_mutable (reference_read c.args.room (left c.args.self.now) (left c.take.new.self) true (left c.take_word.new.self) c.in_ok-name.name (left c.name.new.self)
    c.if-not-take.ensures.exact c.if-take_word.ensures.pair c.in_ok-name.ensures.exact)

pub arg-returns-clause-exact : goal.arg-returns-clause-exact
arg-returns-clause-exact t c =
    rw view_shared (reference_read c.args.room (left c.args.self.now) (left c.take.new.self) false (left c.take_word.new.self) c.in_ok-name-2.name (left c.name-2.new.self)
    c.if-not-take.ensures.exact c.if-take_word.ensures.pair c.in_ok-name-2.ensures.exact)
