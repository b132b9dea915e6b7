use Rattle.oc_audit.proofs.Program.{one_report, programs_back}
use Rattle.oc_audit.proofs.laws.programs_read_back.Goals as goal

pub returns-clause-back : goal.returns-clause-back
returns-clause-back c = programs_back

pub returns-clause-one : goal.returns-clause-one
returns-clause-one c = one_report
