use Rattle.oc_tree.specs.View.{expr_view, right_view}
use Rattle.oc_parse.specs.Steps.{left}
use Rattle.oc_parse.proofs.SimpleParts.{element_to_is}
use Rattle.oc_parse.proofs.Views.{view_assign_index}
use Rattle.oc_parse.proofs.reader.Reader.element_assignment.Goals as goal

pub returns-in-Ok-clause-exact : goal.returns-in-Ok-clause-exact
returns-in-Ok-clause-exact c =
    rw view_assign_index (element_to_is c.args.name (left c.args.self.now) (expr_view c.in_ok-index.index) (left c.ended_expression.new.self) (right_view c.in-Ok.right)
    (left c.assigned.new.self) c.in_ok-index.ensures.exact c.in-Ok.ensures.exact)
