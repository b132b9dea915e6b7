use Rattle.oc_copies.proofs.StandsOn.{frames_stand}
use Rattle.oc_copies.proofs.laws.frames_stand.Goals as goal

pub returns : goal.returns
returns c = frames_stand
