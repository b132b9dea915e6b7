use Rattle.oc_power.proofs.Rounds.{total-looped}
use Rattle.oc_power.proofs.looped.LoopedSupply.feed.Goals as goal

pub returns-clause-sum : goal.returns-clause-sum
returns-clause-sum c = λ _. total-looped _ c.args.rows.now

pub returns-in_err-from_slice-clause-sum : goal.returns-in_err-from_slice-clause-sum
returns-in_err-from_slice-clause-sum c = λ _. total-looped _ c.args.rows.now
