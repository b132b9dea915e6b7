use Rattle.oc_outage.proofs.Enters.{device_fit}
use Rattle.oc_outage.proofs.fit.Goals as goal

pub returns : goal.returns
returns c = device_fit
