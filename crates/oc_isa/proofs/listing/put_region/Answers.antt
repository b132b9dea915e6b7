use Rattle.std.proofs.Common.{◌∙◌, refl}
use Rattle.oc_io.proofs.Going.{begin, finish}
use Rattle.oc_io.proofs.Each.{each_on, each_stop, each_done}
use Rattle.oc_io.proofs.Putting.{all_put, stopped}
use Rattle.oc_isa.specs.Listing.{region_lines, target_line}
use Rattle.oc_isa.proofs.listing.put_region.Goals as goal

pub loop-target-init : goal.loop-target-init
loop-target-init g c = record { calm = refl; going = begin g.O.Sink.took g.met.O.Sink.took_nothing _ _ }

pub loop-target-preserved : goal.loop-target-preserved
loop-target-preserved g c = record {
  calm = c.in_default.ensures.calm ∙ c.loop-target.invariant.calm;
  going = each_on g.O.Sink.took g.met.O.Sink.took_both _ _ _ (region_lines c.args.region) (target_line c.args.region) (λ x xs. refl) c.args.targets.now _ _ _
      c.loop-target-test.true c.loop-target.invariant.going c.in_default.ensures.ok;
}

pub returns-in-Err : goal.returns-in-Err
returns-in-Err g c = stopped g.O.Sink.took g.O.Sink.faults _ _ _ _ _ _ c.loop-target.invariant.calm
    (each_stop g.O.Sink.took g.met.O.Sink.took_both _ _ _ (region_lines c.args.region) (target_line c.args.region) (λ x xs. refl) c.args.targets.now _ _ _ c.loop-target-test.true
    c.loop-target.invariant.going c.in-Err.ensures.part)
    c.in-Err.ensures

pub returns : goal.returns
returns g c = all_put g.O.Sink.took g.O.Sink.faults _ _ _ _ c.loop-target.invariant.calm
    (finish g.O.Sink.took _ _ _ (each_done g.O.Sink.took _ _ (region_lines c.args.region) c.args.targets.now _ _ c.loop-target-test.false c.loop-target.invariant.going))
