use Rattle.std.proofs.Common.{refl}
use Rattle.oc_report.specs.Written.{in_part}
use Rattle.oc_top.proofs.Drilling.{is_drilled}
use Rattle.oc_command.proofs.Taking.{front_of}
use Rattle.oc_report.proofs.Writing.{flushed_written}
use Rattle.oc_top.proofs.drill.drill.Goals as goal

pub returns-in-Ok-put_drill-clause-drilled : goal.returns-in-Ok-put_drill-clause-drilled
returns-in-Ok-put_drill-clause-drilled g c =
    is_drilled _ _ _ _ _ _ _ _ c.in-Ok.ensures.files c.in-Ok-measure.ensures
    (flushed_written g.O.Sink.took g.O.Sink.held g.O.Sink.faults g.met.O.Sink.took_both _ _ _ _ _ _ c.in-Ok-put_drill.ensures.calm c.in-Ok-put_drill.ensures.ok
    c.flush_with.ensures.nothing c.flush_with.ensures.stays)

pub returns-clause-drilled : goal.returns-clause-drilled
returns-clause-drilled g c =
    is_drilled _ _ _ _ _ _ _ _ c.in-Ok.ensures.files c.in-Ok-measure.ensures
    (in_part refl (front_of g.O.Sink.took g.O.Sink.held g.O.Sink.faults _ _ _ c.in-Err.ensures.cause c.in-Err.ensures.part))
