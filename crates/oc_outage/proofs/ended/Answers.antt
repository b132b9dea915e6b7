use Rattle.oc_outage.proofs.Growing.{marked_ended}
use Rattle.oc_outage.proofs.Lasting.{ended_over, last_item}
use Rattle.oc_outage.proofs.Runs.{over_is_whole}
use Rattle.oc_outage.proofs.ended.Goals as goal

pub returns-clause-whole : goal.returns-clause-whole
returns-clause-whole c = λ d h periods how fit sound words e. over_is_whole d h fit words periods how sound (ended_over _ _ how (last_item d h periods) e)

pub returns-clause-last : goal.returns-clause-last
returns-clause-last c = λ report how e. marked_ended report how e
