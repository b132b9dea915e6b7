use Rattle.oc_tree.specs.View.{right_view}
use Rattle.oc_parse.specs.Steps.{left}
use Rattle.oc_parse.proofs.SimpleParts.{target_is}
use Rattle.oc_parse.proofs.Views.{view_assign_deref}
use Rattle.oc_parse.proofs.reader.Reader.target_assignment.Goals as goal

pub returns-clause-exact : goal.returns-clause-exact
returns-clause-exact c =
    rw view_assign_deref (target_is (left c.args.self.now) c.in_ok-name.name (left c.name.new.self) (right_view c.in_ok-right.right) (left c.assigned.new.self) c.in_ok-name.ensures.exact
    c.in_ok-right.ensures.exact)
