use Rattle.std.proofs.Common.{◌∙◌, sym, arith}
use Rattle.oc_regcheck.proofs.InputLaws.{longer, ended}
use Rattle.oc_regcheck.proofs.inputs.is_same.Goals as goal

pub returns-then-i-right : goal.returns-then-i-right
returns-then-i-right c =
    sym (longer c.args.left.now c.args.right.now c.loop-i.i (omega arith) (omega arith)) ∙ c.loop-i.invariant

pub returns : goal.returns
returns c = sym (ended c.args.left.now c.args.right.now c.loop-i.i (omega arith) (omega arith)) ∙ c.loop-i.invariant
