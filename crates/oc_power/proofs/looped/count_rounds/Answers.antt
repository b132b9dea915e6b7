use Rattle.std.proofs.Common.{sym, arith}
use Rattle.oc_power.proofs.Rounds.{whole_rounds-fit, whole_rounds-free}
use Rattle.oc_power.proofs.looped.count_rounds.Goals as goal

pub returns-then-sum-eq0 : goal.returns-then-sum-eq0
returns-then-sum-eq0 c = rw c.if-sum-eq0.true (sym (whole_rounds-free c.args.rounds))

pub returns-then-fit-from : goal.returns-then-fit-from
returns-then-fit-from c = omega (arith, whole_rounds-fit c.args.rounds c.args.sum (omega arith))

pub returns-else-fit-from : goal.returns-else-fit-from
returns-else-fit-from c = omega (arith, whole_rounds-fit c.args.rounds c.args.sum (omega arith))
