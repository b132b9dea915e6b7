use Rattle.oc_tree.specs.View.{expr_view}
use Rattle.oc_parse.specs.Steps.{left}
use Rattle.oc_parse.proofs.SimpleParts.{emit_is}
use Rattle.oc_parse.proofs.Views.{view_emit}
use Rattle.oc_parse.proofs.reader.Reader.emit_statement.Goals as goal

pub returns-clause-exact : goal.returns-clause-exact
returns-clause-exact c =
    rw view_emit (emit_is (left c.args.self.now) (left c.expect.new.self) c.in_ok-port.port (left c.name.new.self) (expr_view c.in_ok-value.value) (left c.emitted.new.self)
    c.in_ok-expect.ensures.exact c.in_ok-port.ensures.exact c.in_ok-value.ensures.exact)
