use Rattle.std.proofs.Common.{◌<◌, length, arith}
use Rattle.oc_needs.proofs.Once.{policies_more}
use Rattle.oc_needs.proofs.policy.policies.Goals as goal

pub loop-function-preserved : goal.loop-function-preserved
loop-function-preserved c =
    let few : c.loop-function.function < length c.args.effects.now.program.functions = omega arith in
    policies_more c.args.effects.now.program c.loop-function.function c.loop-function.seen.items _ _ few c.in_ok-add_function.ensures c.loop-function.invariant
