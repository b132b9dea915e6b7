use Rattle.std.proofs.Common.{◌∙◌, refl}
use Rattle.oc_io.proofs.Going.{begin, finish}
use Rattle.oc_io.proofs.Each.{each_on, each_stop, each_done}
use Rattle.oc_io.proofs.Putting.{all_put, stopped}
use Rattle.oc_report.specs.RegionLines.{reason_line, reason_lines}
use Rattle.oc_report.proofs.regions.put_reasons.Goals as goal

pub loop-reason-init : goal.loop-reason-init
loop-reason-init g c = record { calm = refl; going = begin g.O.Sink.took g.met.O.Sink.took_nothing _ _ }

pub loop-reason-preserved : goal.loop-reason-preserved
loop-reason-preserved g c = record {
  calm = c.in_default.ensures.calm ∙ c.loop-reason.invariant.calm;
  going = each_on g.O.Sink.took g.met.O.Sink.took_both _ _ _ (reason_lines c.args.marked.now) (reason_line c.args.marked.now) (λ x xs. refl) c.args.reasons.now _ 0 _
      c.loop-reason-test.true c.loop-reason.invariant.going c.in_default.ensures.ok;
}

pub returns-in-Err : goal.returns-in-Err
returns-in-Err g c = stopped g.O.Sink.took g.O.Sink.faults _ _ _ _ _ _ c.loop-reason.invariant.calm
    (each_stop g.O.Sink.took g.met.O.Sink.took_both _ _ _ (reason_lines c.args.marked.now) (reason_line c.args.marked.now) (λ x xs. refl) c.args.reasons.now _ 0 _
    c.loop-reason-test.true c.loop-reason.invariant.going c.in-Err.ensures.part)
    c.in-Err.ensures

pub returns : goal.returns
returns g c = all_put g.O.Sink.took g.O.Sink.faults _ _ _ _ c.loop-reason.invariant.calm
    (finish g.O.Sink.took _ _ _ (each_done g.O.Sink.took _ _ (reason_lines c.args.marked.now) c.args.reasons.now _ _ c.loop-reason-test.false c.loop-reason.invariant.going))
