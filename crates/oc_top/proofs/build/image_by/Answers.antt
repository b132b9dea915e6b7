use Rattle.oc_top.proofs.Building.{bounded_code}
use Rattle.oc_top.proofs.build.image_by.Goals as goal

pub returns-clause-bounded : goal.returns-clause-bounded
returns-clause-bounded c = bounded_code c.args.marked.now c.in_ok-image.image c.checked.ensures.marked c.budgets_bound.ensures c.in_ok-image.ensures.code
