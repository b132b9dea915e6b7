use Rattle.std.proofs.Common.{refl}
use Rattle.oc_io.proofs.Putting.{first_failed, same_text, then_put}
use Rattle.oc_isa.proofs.Stretches.{joined}
use Rattle.oc_isa.proofs.listing.listing.Goals as goal

pub returns-in-Err : goal.returns-in-Err
returns-in-Err g c =
    same_text g.O.Sink.took g.O.Sink.faults (joined _ c.raw-raw.result.now _ _ c.raw-raw.ensures.parts c.deref.ensures.value refl) (first_failed g.O.Sink.took g.O.Sink.faults _ c.in-Err.ensures)

pub returns-in-Err-put_targets : goal.returns-in-Err-put_targets
returns-in-Err-put_targets g c =
    same_text g.O.Sink.took g.O.Sink.faults (joined _ c.raw-raw.result.now _ _ c.raw-raw.ensures.parts c.deref.ensures.value c.deref-2.ensures.value)
    (then_put g.O.Sink.took g.O.Sink.faults g.met.O.Sink.took_both c.in_default.ensures (first_failed g.O.Sink.took g.O.Sink.faults _ c.in-Err-put_targets.ensures))

pub returns : goal.returns
returns g c =
    same_text g.O.Sink.took g.O.Sink.faults (joined _ c.raw-raw.result.now _ _ c.raw-raw.ensures.parts c.deref.ensures.value c.deref-2.ensures.value)
    (then_put g.O.Sink.took g.O.Sink.faults g.met.O.Sink.took_both c.in_default.ensures (then_put g.O.Sink.took g.O.Sink.faults g.met.O.Sink.took_both c.in_default-put_targets.ensures c.put_code.ensures))
