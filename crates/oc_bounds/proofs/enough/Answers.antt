use Rattle.oc_bounds.proofs.Sufficing.{steps_end}
use Rattle.oc_bounds.proofs.enough.Goals as goal

pub returns : goal.returns
returns c = λ d b h periods work fit bounded words takes enough. steps_end d b h fit bounded words periods work takes enough
