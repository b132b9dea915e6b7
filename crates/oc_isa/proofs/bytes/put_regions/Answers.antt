use Rattle.std.proofs.Common.{ℕ, refl, ap, map, subst, sym, ◌∙◌}
use Rattle.std.proofs.lemmas.List.{length-map}
use Rattle.std.specs.List.{flat_map}
use Rattle.oc_io.specs.Faults.{TookPart}
use Rattle.oc_io.proofs.Going.{begin, finish}
use Rattle.oc_io.proofs.Each.{each_on, each_stop, each_done}
use Rattle.oc_io.proofs.Putting.{all_put, stopped, then_put}
use Rattle.oc_isa.specs.Bytes.{Bytes, number_bytes, target_bytes, list_bytes}
use Rattle.oc_isa.proofs.bytes.put_regions.Goals as goal

pub loop-targets-init : goal.loop-targets-init
loop-targets-init g c = record { calm = refl; going = begin g.O.Sink.took g.met.O.Sink.took_nothing _ _ }

pub loop-targets-preserved : goal.loop-targets-preserved
loop-targets-preserved g c =
    let is_part = ap (λ ts. list_bytes target_bytes ts) c.deref.ensures.value ∙ ap (λ v. list_bytes target_bytes v.items) c.targets-item.is in
    let put = subst (λ (part : Bytes). g.O.Sink.took c.loop-targets.sink part c.put_region.new.sink) is_part c.in_default-put_region.ensures.ok in
    record {
      calm = c.in_default-put_region.ensures.calm ∙ c.loop-targets.invariant.calm;
      going = each_on g.O.Sink.took g.met.O.Sink.took_both _ _ _ (λ xs. flat_map (list_bytes target_bytes) (map (λ v. v.items) xs)) (λ v. list_bytes target_bytes v.items) (λ x xs. refl)
          c.args.regions.now _ c.targets-item.result _ c.loop-targets-test.true c.loop-targets.invariant.going put;
    }

pub returns-in-Err-put_region : goal.returns-in-Err-put_region
returns-in-Err-put_region g c =
    let is_part = ap (λ ts. list_bytes target_bytes ts) c.deref.ensures.value ∙ ap (λ v. list_bytes target_bytes v.items) c.targets-item.is in
    let put = subst (λ (part : Bytes). TookPart g.O.Sink.took c.loop-targets.sink part c.put_region.new.sink) is_part c.in-Err-put_region.ensures.part in
    then_put g.O.Sink.took g.O.Sink.faults g.met.O.Sink.took_both (rw (← length-map c.args.regions.now (λ v. v.items)) at c.in_default.ensures)
    (stopped g.O.Sink.took g.O.Sink.faults _ _ _ _ _ _ c.loop-targets.invariant.calm
    (each_stop g.O.Sink.took g.met.O.Sink.took_both _ _ _ (λ xs. flat_map (list_bytes target_bytes) (map (λ v. v.items) xs)) (λ v. list_bytes target_bytes v.items) (λ x xs. refl)
    c.args.regions.now _ c.targets-item.result _ c.loop-targets-test.true c.loop-targets.invariant.going put)
    c.in-Err-put_region.ensures)

pub returns : goal.returns
returns g c =
    then_put g.O.Sink.took g.O.Sink.faults g.met.O.Sink.took_both (rw (← length-map c.args.regions.now (λ v. v.items)) at c.in_default.ensures)
    (all_put g.O.Sink.took g.O.Sink.faults _ _ _ _ c.loop-targets.invariant.calm
    (finish g.O.Sink.took _ _ _ (each_done g.O.Sink.took _ _ (λ xs. flat_map (list_bytes target_bytes) (map (λ v. v.items) xs)) c.args.regions.now _ _ c.loop-targets-test.false
    c.loop-targets.invariant.going)))
