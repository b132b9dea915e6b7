use Rattle.oc_tree.proofs.ReachLaws.{rank_falls}
use Rattle.oc_tree.proofs.laws.ranks_fall.Goals as goal

pub returns : goal.returns
returns c = rank_falls
