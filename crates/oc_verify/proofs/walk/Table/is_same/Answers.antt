use Rattle.oc_verify.proofs.TableLaws.{tops_differ}
use Rattle.oc_verify.proofs.walk.Table.is_same.Goals as goal

pub returns-else-is_same-clause-differ : goal.returns-else-is_same-clause-differ
returns-else-is_same-clause-differ c = λ e d. tops_differ c.args.self.now.tops c.args.self.now.regions c.args.left c.args.right (c.is_same.ensures.differ e) d
