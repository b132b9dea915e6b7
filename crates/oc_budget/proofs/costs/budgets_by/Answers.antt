use Rattle.oc_budget.proofs.BoundLaw.{bound_by}
use Rattle.oc_budget.proofs.costs.budgets_by.Goals as goal

pub returns-in-Ok-clause-bounds : goal.returns-in-Ok-clause-bounds
returns-in-Ok-clause-bounds c = bound_by c.args.marked.now c.args.image.now c.checked.ensures.marked c.requires.code
