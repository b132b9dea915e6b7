use Rattle.oc_audit.proofs.OneText.{one_text}
use Rattle.oc_audit.proofs.laws.programs_have_one_text.Goals as goal

pub returns : goal.returns
returns c = one_text
