use Rattle.std.proofs.Common.{refl}
use Rattle.oc_top.proofs.Asking.{auditing_comes, not_fetched}
use Rattle.oc_command.proofs.Taking.{untouched}
use Rattle.oc_top.proofs.top.obey_audit.Goals as goal

pub returns-in-Ok-clause-comes : goal.returns-in-Ok-clause-comes
returns-in-Ok-clause-comes g c = auditing_comes _ _ _ c.in-Ok.ensures.files c.in-Ok.ensures.asked _ refl (rw (c.deref.ensures.value, c.deref-in-Ok.ensures.value) at c.audit_report.ensures.audited)

pub returns-in-Err-clause-comes : goal.returns-in-Err-clause-comes
returns-in-Err-clause-comes g c = not_fetched _ _ refl _ c.in-Err.ensures.refused (untouched g.O.Sink.took g.O.Sink.held g.O.Sink.faults g.met.O.Sink.took_nothing _)
