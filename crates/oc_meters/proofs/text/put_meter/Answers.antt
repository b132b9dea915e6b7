use Rattle.std.proofs.Common.{◌∙◌, ◌<◌, ◌≤◌, length, codes, arith, refl}
use Rattle.oc_io.proofs.Each.{each_on, each_stop, each_done}
use Rattle.oc_io.proofs.Putting.{ended_by, stopped, stopped_in}
use Rattle.oc_meters.specs.Lines.{number_field}
use Rattle.oc_meters.proofs.Fields.{at_head, head_of, number_fields, number_fields-cons}
use Rattle.oc_meters.proofs.text.put_meter.Goals as goal

pub returns-in-Err : goal.returns-in-Err
returns-in-Err g c = stopped_in g.E.Sink.took g.E.Sink.faults g.met.E.Sink.took_both _ _ _ (head_of (g.M.Meter.kind_of c.args.meter.now)) _ _ _ refl
    (at_head g.E.Sink.took g.met.E.Sink.took_nothing _ _ (g.M.Meter.numbers c.args.meter.now))
    (rw c.kind-kind.ensures.kind at (rw c.name.ensures at c.in-Err.ensures))

pub returns-in-Err-put_number : goal.returns-in-Err-put_number
returns-in-Err-put_number g c =
    let count = rw c.kind-kind.ensures.kind at c.width-place-end.ensures in
    let among : c.loop-place.place < length (g.M.Meter.numbers c.args.meter.now) = omega (arith, c.loop-place-test.true, count, c.kind-kind.ensures.width) in
    let put = rw c.number.ensures at c.in-Err-put_number.ensures in
    stopped g.E.Sink.took g.E.Sink.faults _ _ _ _ _ _ c.loop-place.invariant.calm
    (each_stop g.E.Sink.took g.met.E.Sink.took_both _ _ _ number_fields number_field number_fields-cons (g.M.Meter.numbers c.args.meter.now) _ 0 _ among c.loop-place.invariant.going put.part)
    put

pub loop-place-preserved : goal.loop-place-preserved
loop-place-preserved g c =
    let count = rw c.kind-kind.ensures.kind at c.width-place-end.ensures in
    let among : c.loop-place.place < length (g.M.Meter.numbers c.args.meter.now) = omega (arith, c.loop-place-test.true, count, c.kind-kind.ensures.width) in
    record {
      calm = c.in_default-put_number.ensures.calm ∙ c.loop-place.invariant.calm;
      going = each_on g.E.Sink.took g.met.E.Sink.took_both _ _ _ number_fields number_field number_fields-cons (g.M.Meter.numbers c.args.meter.now) _ 0 _ among c.loop-place.invariant.going
          (rw c.number.ensures at c.in_default-put_number.ensures.ok);
    }

pub returns : goal.returns
returns g c =
    let count = rw c.kind-kind.ensures.kind at c.width-place-end.ensures in
    let done : length (g.M.Meter.numbers c.args.meter.now) ≤ c.loop-place.place = omega (arith, c.loop-place-test.false, count, c.kind-kind.ensures.width) in
    ended_by g.E.Sink.took g.E.Sink.faults g.met.E.Sink.took_both _ _ _ (codes "\n") _ _ c.loop-place.invariant.calm
    (each_done g.E.Sink.took _ _ number_fields (g.M.Meter.numbers c.args.meter.now) _ _ done c.loop-place.invariant.going)
    c.put.ensures.puts
