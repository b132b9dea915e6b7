use Rattle.oc_watch.proofs.Settled.{run_settles}
use Rattle.oc_watch.proofs.settles.Goals as goal

pub returns : goal.returns
returns c = run_settles
