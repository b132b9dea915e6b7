use Rattle.std.proofs.Common.{rules, arith}
use Rattle.oc_verify.proofs.TopLaws.{stack_low}
use Rattle.oc_verify.proofs.room.height.Goals as goal

pub overflow_add-result : goal.overflow_add-result
overflow_add-result c =
    let low = stack_low c.args.tops.now c.in-Some.below in
    let less = c.in-Some.ensures.lower in
    let is = c.requires.heights c.in-Some.below less in
    search (rules, arith)
