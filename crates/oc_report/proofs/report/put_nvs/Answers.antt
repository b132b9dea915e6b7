use Rattle.std.proofs.Common.{refl, ◌∙◌}
use Rattle.oc_io.proofs.Going.{begin}
use Rattle.oc_io.proofs.Putting.{stopped}
use Rattle.oc_report.proofs.Variables.{variable_on, variable_stop}
use Rattle.oc_report.proofs.report.put_nvs.Goals as goal

pub loop-place-init : goal.loop-place-init
loop-place-init g c = record { calm = refl; going = begin g.O.Sink.took g.met.O.Sink.took_nothing _ _ }

pub loop-place-preserved : goal.loop-place-preserved
loop-place-preserved g c =
    let among = rw c.deref-nv-items.ensures.value at c.loop-place-test.true in
    let size = rw c.deref-nv-items.ensures.value at c.min.ensures in
    record {
      calm = c.in_default.ensures.calm ∙ c.loop-place.invariant.calm;
      going = variable_on g.O.Sink.took g.met.O.Sink.took_both _ _ _ _ _ _ _ _ _ _ _ _ among c.requires.each_nv size c.split_at.ensures.front c.split_at.ensures.back
          c.loop-place.invariant.going c.in_default.ensures.ok;
    }

pub returns-in-Err : goal.returns-in-Err
returns-in-Err g c =
    let among = rw c.deref-nv-items.ensures.value at c.loop-place-test.true in
    let size = rw c.deref-nv-items.ensures.value at c.min.ensures in
    stopped g.O.Sink.took g.O.Sink.faults _ _ _ _ _ _ c.loop-place.invariant.calm
    (variable_stop g.O.Sink.took g.met.O.Sink.took_both _ _ _ _ _ _ _ _ _ _ _ _ among c.requires.each_nv size c.split_at.ensures.front c.split_at.ensures.back
    c.loop-place.invariant.going c.in-Err.ensures.part)
    c.in-Err.ensures
