use Rattle.oc_audit.proofs.HonestTexts.{honest_texts}
use Rattle.oc_audit.proofs.laws.honest_texts.Goals as goal

pub returns : goal.returns
returns c = honest_texts
