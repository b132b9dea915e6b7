use Rattle.oc_meters.proofs.ReadBack.{report_is_read}
use Rattle.oc_meters.proofs.laws.report_is_read.Goals as goal

pub returns : goal.returns
returns c = report_is_read
