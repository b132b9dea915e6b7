use Rattle.std.proofs.Common.{subst, sym}
use Rattle.oc_regcheck.specs.Enough.{AreStatements}
use Rattle.oc_top.proofs.Checking.{not_read, not_enough_in, there}
use Rattle.oc_top.proofs.check.try_blocks.Goals as goal

pub judge-requires : goal.judge-requires
judge-requires c =
    subst (AreStatements c.in-Ok.checked.program) (sym c.deref.ensures.value) (there c.args.source.now c.in-Ok.checked c.in-Ok.blocks.items c.in-Ok.ensures.checked)

pub returns-in-Ok-clause-refused : goal.returns-in-Ok-clause-refused
returns-in-Ok-clause-refused c =
    not_enough_in c.args.source.now c.in-Ok.checked c.in-Ok.blocks.items c.in-Ok.ensures.checked c.judge.result (rw c.deref.ensures.value at c.judge.ensures.open)

pub returns-in-Err-clause-refused : goal.returns-in-Err-clause-refused
returns-in-Err-clause-refused c = not_read c.args.source.now c.in-Err.answer c.in-Err.ensures.refused
