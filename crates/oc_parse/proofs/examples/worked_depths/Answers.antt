use Rattle.oc_parse.proofs.Worked as by_hand
use Rattle.oc_parse.proofs.examples.worked_depths.Goals as goal

pub returns : goal.returns
returns c = by_hand.worked_depths
