use Rattle.std.proofs.Common.{◌≡◌, Ok, length, ◌+◌, ◌-◌, ◌*◌, ◌<◌, ◌≤◌, map}
use Rattle.oc_tree.specs.View.{arg_view, expr_view}
use Rattle.oc_grammar.specs.Limits.{the_depths}
use Rattle.oc_grammar.specs.ReadingExpressions.{chain, level_at, args_at}
use Rattle.oc_parse.specs.Parts.{operations_at, after}
use Rattle.oc_parse.specs.Steps.{left}
use Rattle.oc_parse.proofs.reader.Reader.+expression.Given as goal

abbrev pub decreases-unary : goal.decreases-unary
decreases-unary l = 64 * l.room + 6

abbrev pub decreases-name_expression : goal.decreases-name_expression
decreases-name_expression l = 64 * l.room + 5

abbrev pub decreases-element_expression : goal.decreases-element_expression
decreases-element_expression l = 64 * l.room + 4

abbrev pub decreases-prefix_expression : goal.decreases-prefix_expression
decreases-prefix_expression l = 64 * l.room + 2

abbrev pub decreases-enclosed : goal.decreases-enclosed
decreases-enclosed l = 64 * l.room + 3

abbrev pub decreases-inner : goal.decreases-inner
decreases-inner l = 64 * l.room + 2

abbrev pub decreases-inner_args : goal.decreases-inner_args
decreases-inner_args l = 64 * l.room + 2

abbrev pub decreases-level : goal.decreases-level
decreases-level l = 64 * l.room + 6 * l.level + 10

abbrev pub decreases-operations : goal.decreases-operations
decreases-operations l = 64 * l.room + 6 * l.level + 9

abbrev pub decreases-comparison : goal.decreases-comparison
decreases-comparison l = 64 * l.room + 26

abbrev pub decreases-operation : goal.decreases-operation
decreases-operation l = 64 * l.room + 6 * l.level + 7

abbrev pub decreases-operand : goal.decreases-operand
decreases-operand l = 64 * l.room + 6 * l.level + 6

abbrev pub decreases-part : goal.decreases-part
decreases-part l = 64 * l.room + 60

abbrev pub decreases-arg : goal.decreases-arg
decreases-arg l = 64 * l.room + 61

abbrev pub decreases-args : goal.decreases-args
decreases-args l = 64 * l.room + 63

abbrev pub decreases-add_args : goal.decreases-add_args
decreases-add_args l = 64 * l.room + 62

abbrev pub invariant-add_args-loop-self : goal.invariant-add_args-loop-self
invariant-add_args-loop-self l = (after (map arg_view l.args.items) (args_at the_depths l.room (left l.self)) ≡ after (map arg_view l.fn.args.items) (args_at the_depths l.room (left l.fn.self))) ×
    (length l.self.rest.now ≤ length l.fn.self.rest.now)

abbrev pub decreases-add_args-loop-self : goal.decreases-add_args-loop-self
decreases-add_args-loop-self l = length l.self.rest.now

abbrev pub invariant-level-loop-below : goal.invariant-level-loop-below
invariant-level-loop-below l = (level_at the_depths l.below l.room l.fn.operators (left l.fn.self) ≡ Ok (expr_view l.tree, l.operators, left l.self)) ×
    (length l.self.rest.now < length l.fn.self.rest.now)

abbrev pub invariant-operations-loop-op : goal.invariant-operations-loop-op
invariant-operations-loop-op l = (chain l.level (level_at the_depths (l.level - 1) l.room) (length (left l.self)) (expr_view l.tree) l.operators (left l.self)
    ≡ operations_at l.level l.room (expr_view l.fn.first) l.fn.operators (left l.fn.self)) × (length l.self.rest.now ≤ length l.fn.self.rest.now)

abbrev pub decreases-operations-loop-op : goal.decreases-operations-loop-op
decreases-operations-loop-op l = length l.self.rest.now
