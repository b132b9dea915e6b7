use Rattle.std.proofs.Common.{◌∙◌, refl}
use Rattle.std.specs.List.{flat_map}
use Rattle.oc_io.proofs.Going.{begin, finish}
use Rattle.oc_io.proofs.Each.{each_on, each_stop, each_done}
use Rattle.oc_io.proofs.Putting.{all_put, stopped, then_put}
use Rattle.oc_isa.specs.Bytes.{target_bytes}
use Rattle.oc_isa.proofs.bytes.put_region.Goals as goal

pub loop-target-init : goal.loop-target-init
loop-target-init g c = record { calm = refl; going = begin g.O.Sink.took g.met.O.Sink.took_nothing _ _ }

pub loop-target-preserved : goal.loop-target-preserved
loop-target-preserved g c =
    record {
      calm = c.in_default-put_target.ensures.calm ∙ c.loop-target.invariant.calm;
      going = each_on g.O.Sink.took g.met.O.Sink.took_both _ _ _ (flat_map target_bytes) target_bytes (λ x xs. refl) c.args.targets.now _ _ _ c.loop-target-test.true
          c.loop-target.invariant.going c.in_default-put_target.ensures.ok;
    }

pub returns-in-Err-put_target : goal.returns-in-Err-put_target
returns-in-Err-put_target g c = then_put g.O.Sink.took g.O.Sink.faults g.met.O.Sink.took_both c.in_default.ensures
    (stopped g.O.Sink.took g.O.Sink.faults _ _ _ _ _ _ c.loop-target.invariant.calm
    (each_stop g.O.Sink.took g.met.O.Sink.took_both _ _ _ (flat_map target_bytes) target_bytes (λ x xs. refl) c.args.targets.now _ _ _ c.loop-target-test.true
    c.loop-target.invariant.going c.in-Err-put_target.ensures.part)
    c.in-Err-put_target.ensures)

pub returns : goal.returns
returns g c = then_put g.O.Sink.took g.O.Sink.faults g.met.O.Sink.took_both c.in_default.ensures
    (all_put g.O.Sink.took g.O.Sink.faults _ _ _ _ c.loop-target.invariant.calm
    (finish g.O.Sink.took _ _ _ (each_done g.O.Sink.took _ _ (flat_map target_bytes) c.args.targets.now _ _ c.loop-target-test.false c.loop-target.invariant.going)))
