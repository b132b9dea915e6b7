use Rattle.std.proofs.Common.{Some, None}
use Rattle.oc_tree.specs.View.{program_view}
use Rattle.oc_command.proofs.Naming.{declared_is}
use Rattle.oc_command.proofs.names.variable_name.Goals as goal

pub returns-in-Some : goal.returns-in-Some
returns-in-Some c = rw c.in-Declared.is (declared_is (program_view c.args.program.now) c.args.function c.in-Declared.stmt (Some c.in-Some.name.now) c.in-Some.ensures)

pub returns-in-None : goal.returns-in-None
returns-in-None c = rw c.in-Declared.is (declared_is (program_view c.args.program.now) c.args.function c.in-Declared.stmt None c.in-None.ensures)
