use Rattle.std.proofs.Common.{◌∙◌, refl}
use Rattle.std.specs.List.{flat_map}
use Rattle.oc_io.proofs.Going.{begin, finish}
use Rattle.oc_io.proofs.Each.{each_on, each_stop, each_done}
use Rattle.oc_io.proofs.Putting.{all_put, stopped, then_put}
use Rattle.oc_isa.specs.Bytes.{placed_bytes}
use Rattle.oc_isa.proofs.bytes.put_code.Goals as goal

pub loop-placed-init : goal.loop-placed-init
loop-placed-init g c = record { calm = refl; going = begin g.O.Sink.took g.met.O.Sink.took_nothing _ _ }

pub loop-placed-preserved : goal.loop-placed-preserved
loop-placed-preserved g c =
    record {
      calm = c.in_default-put_placed.ensures.calm ∙ c.loop-placed.invariant.calm;
      going = each_on g.O.Sink.took g.met.O.Sink.took_both _ _ _ (flat_map placed_bytes) placed_bytes (λ x xs. refl) c.args.code.now _ _ _ c.loop-placed-test.true
          c.loop-placed.invariant.going c.in_default-put_placed.ensures.ok;
    }

pub returns-in-Err-put_placed : goal.returns-in-Err-put_placed
returns-in-Err-put_placed g c = then_put g.O.Sink.took g.O.Sink.faults g.met.O.Sink.took_both c.in_default.ensures
    (stopped g.O.Sink.took g.O.Sink.faults _ _ _ _ _ _ c.loop-placed.invariant.calm
    (each_stop g.O.Sink.took g.met.O.Sink.took_both _ _ _ (flat_map placed_bytes) placed_bytes (λ x xs. refl) c.args.code.now _ _ _ c.loop-placed-test.true
    c.loop-placed.invariant.going c.in-Err-put_placed.ensures.part)
    c.in-Err-put_placed.ensures)

pub returns : goal.returns
returns g c = then_put g.O.Sink.took g.O.Sink.faults g.met.O.Sink.took_both c.in_default.ensures
    (all_put g.O.Sink.took g.O.Sink.faults _ _ _ _ c.loop-placed.invariant.calm
    (finish g.O.Sink.took _ _ _ (each_done g.O.Sink.took _ _ (flat_map placed_bytes) c.args.code.now _ _ c.loop-placed-test.false c.loop-placed.invariant.going)))
