use Rattle.std.proofs.Common.{List, subst, max, arith}
use Rattle.oc_tree.specs.declared.said.Said.{Said}
use Rattle.oc_items.specs.Erase.{marked, kept_samples}
use Rattle.oc_items.specs.Reports.{IsPrefixOf}
use Rattle.oc_outage.specs.Honest.{all_on}
use Rattle.oc_outage.proofs.Runs.{every_prefix, every_prefix_later}
use Rattle.oc_outage.proofs.honest.Goals as goal

pub returns-clause-front : goal.returns-clause-front
returns-clause-front c = λ d h periods q rest fit sound words e. every_prefix d h fit words periods q rest sound e

pub returns-clause-tells : goal.returns-clause-tells
returns-clause-tells c = λ d h said fit sound words says periods q rest e.
    let run = says (kept_samples q) in
    let n = max (all_on periods) run.0 in
    let late = every_prefix_later d h fit words periods q rest n (omega arith) sound e in
    let front = subst (λ (all : List Said). IsPrefixOf (marked q) all) (run.1 n (omega arith)) late.said in
    record { rest = front.0; is = front.1; outside = late.outside }
