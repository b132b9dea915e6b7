use Rattle.std.proofs.Common.{◌+◌, ◌∙◌, ap, map, refl}
use Rattle.oc_isa.specs.Listing.{region_lines, target_lines}
use Rattle.oc_io.proofs.Putting.{stopped}
use Rattle.oc_isa.proofs.Counted.{counted_on, counted_stop}
use Rattle.oc_isa.proofs.listing.put_targets.Goals as goal

pub loop-place-preserved : goal.loop-place-preserved
loop-place-preserved g c =
    let region = c.loop-place.place + 1 in
    let is_part = ap (region_lines region) c.deref.ensures.value ∙ ap (λ v. region_lines region v.items) c.index-regions-place.is in
    record {
      calm = c.in_default.ensures.calm ∙ c.loop-place.invariant.calm;
      going = counted_on g.O.Sink.took g.met.O.Sink.took_both _ _ _ (λ n xs. target_lines n (map (λ v. v.items) xs)) (λ n v. region_lines n v.items) (λ n x xs. refl)
          c.args.regions.now _ _ c.index-regions-place.result _ _ c.loop-place-test.true is_part c.loop-place.invariant.going c.in_default.ensures.ok;
    }

pub returns-in-Err : goal.returns-in-Err
returns-in-Err g c =
    let region = c.loop-place.place + 1 in
    let is_part = ap (region_lines region) c.deref.ensures.value ∙ ap (λ v. region_lines region v.items) c.index-regions-place.is in
    stopped g.O.Sink.took g.O.Sink.faults _ _ _ _ _ _ c.loop-place.invariant.calm
    (counted_stop g.O.Sink.took g.met.O.Sink.took_both _ _ _ (λ n xs. target_lines n (map (λ v. v.items) xs)) (λ n v. region_lines n v.items) (λ n x xs. refl)
    c.args.regions.now _ _ c.index-regions-place.result _ _ c.loop-place-test.true is_part c.loop-place.invariant.going c.in-Err.ensures.part)
    c.in-Err.ensures
