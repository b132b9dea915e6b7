use Rattle.std.proofs.Common.{subst}
use Rattle.oc_tree.specs.Checked.{TChecked}
use Rattle.oc_regcheck.specs.Enough.{IsVerdict}
use Rattle.oc_regcheck.proofs.Verdicts.{tells, covering}
use Rattle.oc_regcheck.proofs.check.check_blocks.Goals as goal

pub returns-in-Ok-clause-covered : goal.returns-in-Ok-clause-covered
returns-in-Ok-clause-covered c =
    let m = c.args.checked.now in
    let h = subst (λ (t : TChecked). IsVerdict t.program c.args.blocks.now c.in-Ok.verdict) c.requires.summaries c.in-Ok.ensures in
    tells m.program m.groups c.program-program.ensures.checked c.args.blocks.now c.in-Ok.verdict h

pub returns-in-Ok-clause-timely : goal.returns-in-Ok-clause-timely
returns-in-Ok-clause-timely c = λ e. (
    let m = c.args.checked.now in
    let h = subst (λ (t : TChecked). IsVerdict t.program c.args.blocks.now c.in-Ok.verdict) c.requires.summaries c.in-Ok.ensures in
    c.blocks_hold.ensures m c.program-program.ensures.checked c.args.blocks.now c.requires.blocks (covering m.program m.groups c.program-program.ensures.checked c.args.blocks.now c.in-Ok.verdict h e))
