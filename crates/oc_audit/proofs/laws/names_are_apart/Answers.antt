use Rattle.oc_lex.specs.Stands.{IsName}
use Rattle.oc_tree.specs.Checked.{AnyName}
use Rattle.oc_audit.proofs.Apart.{names_apart}
use Rattle.oc_audit.proofs.laws.names_are_apart.Goals as goal

pub returns-clause-written : goal.returns-clause-written
returns-clause-written c = λ p h. names_apart IsName p h.form h.unbroken

pub returns-clause-checked : goal.returns-clause-checked
returns-clause-checked c = λ p groups h. names_apart AnyName p h.form h.unbroken
