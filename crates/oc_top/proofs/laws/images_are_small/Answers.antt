use Rattle.oc_top.proofs.Imaging.{images_are_small}
use Rattle.oc_top.proofs.laws.images_are_small.Goals as goal

pub returns : goal.returns
returns c = images_are_small
