use Rattle.oc_report.proofs.Writing.{flushed_written}
use Rattle.oc_report.proofs.text.put_listing.Goals as goal

pub returns-in-Ok-clause-written : goal.returns-in-Ok-clause-written
returns-in-Ok-clause-written g c = flushed_written g.O.Sink.took g.O.Sink.held g.O.Sink.faults g.met.O.Sink.took_both _ _ _ _ _ _ c.in-Ok.ensures.calm c.in-Ok.ensures.ok
    c.flush_with.ensures.nothing c.flush_with.ensures.stays
