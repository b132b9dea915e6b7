use Rattle.oc_copies.proofs.Frames.{frames_hold}
use Rattle.oc_copies.proofs.laws.frames_hold.Goals as goal

pub returns : goal.returns
returns c = frames_hold
