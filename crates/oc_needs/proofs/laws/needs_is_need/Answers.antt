use Rattle.oc_needs.proofs.NeedLaw.{needs_decide}
use Rattle.oc_needs.proofs.laws.needs_is_need.Goals as goal

pub returns : goal.returns
returns c = λ p groups checked q f w. needs_decide p groups checked q f w
