use Rattle.oc_top.proofs.Auditing.{is_found}
use Rattle.oc_top.proofs.audit.find.Goals as goal

pub returns-clause-found : goal.returns-clause-found
returns-clause-found c = is_found c.args.source.now c.args.report.now c.in_ok-marked.marked c.in_ok-finding.finding c.in_ok-marked.ensures.marked c.in_ok-finding.ensures
