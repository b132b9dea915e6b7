use Rattle.std.proofs.Common.{rules}
use Rattle.oc_sensors.proofs.Moving.{first_late, one_on}
use Rattle.oc_sensors.proofs.sensors.move_on.Goals as goal

pub loop-at-preserved : goal.loop-at-preserved
loop-at-preserved c = one_on c.args.rows.now c.loop-at.last c.loop-at.at c.args.now _ _ c.loop-at-test.true c.if-rows-at.true (search rules) c.loop-at.invariant

pub returns-else-rows-at-clause-shown : goal.returns-else-rows-at-clause-shown
returns-else-rows-at-clause-shown c = first_late c.args.rows.now c.loop-at.last c.loop-at.at c.args.now _ c.loop-at-test.true c.if-rows-at.false c.loop-at.invariant
