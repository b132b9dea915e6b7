use Rattle.std.proofs.Common.{◌∙◌, get_or, rules}
use Rattle.oc_io.specs.Faults.{TookPart}
use Rattle.oc_io.proofs.Each.{each_on, each_stop}
use Rattle.oc_io.proofs.Putting.{stopped}
use Rattle.oc_meters.specs.Lines.{meter_line}
use Rattle.oc_meters.specs.Tally.{reading}
use Rattle.oc_meters.proofs.Fields.{lines_of, lines_of-cons}
use Rattle.oc_meters.proofs.text.put_meters.Goals as goal

pub returns-in-Err : goal.returns-in-Err
returns-in-Err g c =
    let part : TookPart g.E.Sink.took c.loop-meter.err (meter_line (reading g.M.Meter.kind_of g.M.Meter.numbers (get_or c.args.meters.now c.loop-meter.meter-index c.meter-item.result)))
    c.put_meter.new.err = search rules in
    stopped g.E.Sink.took g.E.Sink.faults _ _ _ _ _ _ c.loop-meter.invariant.calm
    (each_stop g.E.Sink.took g.met.E.Sink.took_both _ _ _ (lines_of g.M.Meter.kind_of g.M.Meter.numbers) (λ m. meter_line (reading g.M.Meter.kind_of g.M.Meter.numbers m))
    (lines_of-cons g.M.Meter.kind_of g.M.Meter.numbers)
    c.args.meters.now _ c.meter-item.result _ c.loop-meter-test.true c.loop-meter.invariant.going part)
    c.in-Err.ensures

pub loop-meter-preserved : goal.loop-meter-preserved
loop-meter-preserved g c =
    let ok : g.E.Sink.took c.loop-meter.err (meter_line (reading g.M.Meter.kind_of g.M.Meter.numbers (get_or c.args.meters.now c.loop-meter.meter-index c.meter-item.result)))
    c.put_meter.new.err = search rules in
    record {
      calm = c.in_default.ensures.calm ∙ c.loop-meter.invariant.calm;
      going = each_on g.E.Sink.took g.met.E.Sink.took_both _ _ _ (lines_of g.M.Meter.kind_of g.M.Meter.numbers) (λ m. meter_line (reading g.M.Meter.kind_of g.M.Meter.numbers m))
          (lines_of-cons g.M.Meter.kind_of g.M.Meter.numbers)
          c.args.meters.now _ c.meter-item.result _ c.loop-meter-test.true c.loop-meter.invariant.going ok;
    }
