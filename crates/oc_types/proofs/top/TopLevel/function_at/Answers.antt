use Rattle.oc_tree.specs.View.{program_view}
use Rattle.oc_types.proofs.Sums.{viewed_below, viewed_nodes}
use Rattle.oc_types.proofs.top.TopLevel.function_at.Goals as goal

pub returns-clause-nodes : goal.returns-clause-nodes
returns-clause-nodes c = viewed_nodes (program_view c.args.self.now) c.args.number c.nth.result c.nth.ensures

pub returns-clause-below : goal.returns-clause-below
returns-clause-below c = viewed_below (program_view c.args.self.now) c.args.number c.nth.result c.nth.ensures
