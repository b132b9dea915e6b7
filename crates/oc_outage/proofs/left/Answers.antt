use Rattle.oc_outage.proofs.Lasting.{last_item, lost_exactly, over_exactly}
use Rattle.oc_outage.proofs.left.Goals as goal

pub returns : goal.returns
returns c = record {
  last = λ d h periods. last_item d h periods;
  over = λ d h periods how. over_exactly d h periods how;
  lost = λ d h periods. lost_exactly d h periods;
}
