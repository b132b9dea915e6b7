use Rattle.oc_report.proofs.Executing.{bad_bytes, blamed}
use Rattle.oc_report.proofs.prepare.load.Goals as goal

pub returns-in-Err-clause-refused : goal.returns-in-Err-clause-refused
returns-in-Err-clause-refused c = bad_bytes _ _ c.in-Err.error c.without_image.ensures c.in-Err.ensures.fault

pub returns-clause-refused : goal.returns-clause-refused
returns-clause-refused c = blamed c.args.bytes.now c.in-Ok.raw _ _ c.without_verdict.ensures c.in-Ok.ensures.found c.in-Err-verify.ensures.blames
