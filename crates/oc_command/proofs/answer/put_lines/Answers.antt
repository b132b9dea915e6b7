use Rattle.std.proofs.Common.{inr}
use Rattle.oc_command.proofs.Taking.{flushed_or, front_of}
use Rattle.oc_command.proofs.answer.put_lines.Goals as goal

pub returns-in-Ok-clause-line : goal.returns-in-Ok-clause-line
returns-in-Ok-clause-line g c = flushed_or g.E.Sink.took g.E.Sink.held g.E.Sink.faults g.met.E.Sink.took_both _ _ _ _ c.flush.result c.in-Ok.ensures.calm c.in-Ok.ensures.ok
    c.flush.ensures.nothing c.flush.ensures.written c.flush.ensures.calm c.flush.ensures.cause

pub returns-in-Err-clause-line : goal.returns-in-Err-clause-line
returns-in-Err-clause-line g c = inr (front_of g.E.Sink.took g.E.Sink.held g.E.Sink.faults _ _ _ c.in-Err.ensures.cause c.in-Err.ensures.part)
