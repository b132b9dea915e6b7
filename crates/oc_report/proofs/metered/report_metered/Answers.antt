use Rattle.std.proofs.Common.{◌∙◌, ap}
use Rattle.oc_isa.specs.Image.{Parts}
use Rattle.oc_tree.specs.Names.{names_view}
use Rattle.oc_report.proofs.Booking.{begun_is, reported_as, was_reported}
use Rattle.oc_report.proofs.metered.report_metered.Goals as goal

pub returns-clause-reported : goal.returns-clause-reported
returns-clause-reported g c =
    let prepared = c.args.prepared in let at = c.args.supply.now in
    let same = ap names_view c.in-Ok-new.ensures.names ∙ c.in-Ok.ensures ∙ ap (λ (p : Parts). p.names) (c.raw.ensures.parts ∙ c.image.ensures) in
    let begins = begun_is g.M.Meter.kind_of g.M.Meter.numbers _ _ c.args.meters.items c.in-Ok-new.ensures.line (ap (λ v. v.items) c.in-Ok-new.ensures.meters) in
    reported_as _ _ _ _ _ _ _ _ c.kept_for.ensures.answer
    (was_reported c.report_is_read.ensures prepared.machine.parts prepared.sensors.rows ((goal.Supply-dyn g at).left at.1) c.requires.names _ _ _ _ _ _ _
    c.report_booked-answer.ensures.written c.report_booked-answer.ensures.fits c.report_booked-answer.ensures.read.takes same begins c.kept_for.ensures.kept c.kept_for.ensures.none)
