use Rattle.oc_outage.proofs.Runs.{count_is_kept}
use Rattle.oc_outage.proofs.counts.Goals as goal

pub returns : goal.returns
returns c = λ d h periods fit sound words. count_is_kept d h fit words periods sound
