use Rattle.std.proofs.Common.{arith, rules}
use Rattle.oc_regcheck.proofs.Verdicts.{item_small}
use Rattle.oc_regcheck.proofs.check.first_open.Goals as goal

pub is_met-requires-clause-function : goal.is_met-requires-clause-function
is_met-requires-clause-function c =
    item_small c.args.unguarded.now.1 c.args.required.now c.loop-requirement.requirement-index c.requirement-item.result c.requires.functions (omega arith) (search rules)
