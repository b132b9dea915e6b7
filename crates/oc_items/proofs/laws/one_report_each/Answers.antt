use Rattle.oc_items.proofs.NvBack.{one_report}
use Rattle.oc_items.proofs.laws.one_report_each.Goals as goal

pub returns : goal.returns
returns c = one_report
