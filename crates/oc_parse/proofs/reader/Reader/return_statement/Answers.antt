use Rattle.oc_tree.specs.View.{expr_view}
use Rattle.oc_parse.specs.Steps.{left}
use Rattle.oc_parse.proofs.SimpleParts.{return_is}
use Rattle.oc_parse.proofs.Views.{view_return}
use Rattle.oc_parse.proofs.reader.Reader.return_statement.Goals as goal

pub returns-clause-exact : goal.returns-clause-exact
returns-clause-exact c =
    rw view_return (return_is (left c.args.self.now) (expr_view c.in_ok-value.value) (left c.ended_expression.new.self) c.in_ok-value.ensures.exact)
