use Rattle.oc_audit.proofs.OneText.{one_report}
use Rattle.oc_audit.proofs.laws.programs_have_one_report.Goals as goal

pub returns : goal.returns
returns c = one_report
