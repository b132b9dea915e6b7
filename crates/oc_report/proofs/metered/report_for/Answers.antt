use Rattle.std.proofs.Common.{refl}
use Rattle.oc_report.specs.Metered.{read}
use Rattle.oc_report.proofs.metered.report_for.Goals as goal

pub returns-in-None-clause-reported : goal.returns-in-None-clause-reported
returns-in-None-clause-reported g c = rw c.in-None.is (read c.report.ensures.written c.report.ensures.fits (λ apart. refl) (λ e. refl))
