use Rattle.std.proofs.Common.{refl, subst}
use Rattle.oc_top.specs.Audited.{IsFound}
use Rattle.oc_top.specs.Judged.{honest, not_audited, refused}
use Rattle.oc_command.proofs.Taking.{untouched}
use Rattle.oc_top.proofs.audit.audit_report.Goals as goal

pub returns-in-Ok-BadLine-clause-audited : goal.returns-in-Ok-BadLine-clause-audited
returns-in-Ok-BadLine-clause-audited g c =
    refused _ (subst (IsFound c.args.source.now c.args.report.now) c.in-Ok-BadLine.field-0-is c.in-Ok-BadLine.ensures.found) refl (untouched g.O.Sink.took g.O.Sink.held g.O.Sink.faults g.met.O.Sink.took_nothing _)

pub returns-in-Ok-Breaks-clause-audited : goal.returns-in-Ok-Breaks-clause-audited
returns-in-Ok-Breaks-clause-audited g c =
    refused _ (subst (IsFound c.args.source.now c.args.report.now) c.in-Ok-Breaks.field-0-is c.in-Ok-Breaks.ensures.found) refl (untouched g.O.Sink.took g.O.Sink.held g.O.Sink.faults g.met.O.Sink.took_nothing _)

pub returns-in-Ok-Honest-clause-audited : goal.returns-in-Ok-Honest-clause-audited
returns-in-Ok-Honest-clause-audited g c =
    honest (subst (IsFound c.args.source.now c.args.report.now) c.in-Ok-Honest.field-0-is c.in-Ok-Honest.ensures.found) c.put_text.ensures.written

pub returns-in-Err-clause-audited : goal.returns-in-Err-clause-audited
returns-in-Err-clause-audited g c = not_audited c.in-Err.ensures.refused (untouched g.O.Sink.took g.O.Sink.held g.O.Sink.faults g.met.O.Sink.took_nothing _)
