use Rattle.oc_budget.proofs.BoundLaw.{all_bound}
use Rattle.oc_budget.proofs.laws.budgets_bound.Goals as goal

pub returns : goal.returns
returns c = all_bound
