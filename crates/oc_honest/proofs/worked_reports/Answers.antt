use Rattle.oc_honest.proofs.Worked.{worked_reports}
use Rattle.oc_honest.proofs.worked_reports.Goals as goal

pub returns : goal.returns
returns c = worked_reports
