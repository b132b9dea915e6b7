use Rattle.oc_audit.proofs.OneWay.{reads_back}
use Rattle.oc_audit.proofs.laws.texts_read_back.Goals as goal

pub returns : goal.returns
returns c = reads_back
