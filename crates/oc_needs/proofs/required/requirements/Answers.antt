use Rattle.oc_needs.proofs.NeedLaw.{needs_decide}
use Rattle.oc_needs.proofs.required.requirements.Goals as goal

pub returns-in-Ok-clause-need : goal.returns-in-Ok-clause-need
returns-in-Ok-clause-need c = λ q f w. needs_decide c.args.checked.now.program c.args.checked.now.groups c.program-program.ensures.checked q f w
