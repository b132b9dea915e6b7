use Rattle.std.proofs.Common.{◌∙◌, refl, subst}
use Rattle.std.specs.List.{flat_map}
use Rattle.oc_io.specs.Faults.{TookPart}
use Rattle.oc_io.proofs.Going.{begin, finish}
use Rattle.oc_io.proofs.Each.{each_on, each_stop, each_done}
use Rattle.oc_io.proofs.Putting.{all_put, stopped, then_put}
use Rattle.oc_tree.specs.Names.{Text}
use Rattle.oc_isa.specs.Bytes.{name_bytes}
use Rattle.oc_isa.proofs.bytes.put_names.Goals as goal

pub loop-name-init : goal.loop-name-init
loop-name-init g c = record { calm = refl; going = begin g.O.Sink.took g.met.O.Sink.took_nothing _ _ }

pub loop-name-preserved : goal.loop-name-preserved
loop-name-preserved g c =
    let put = subst (λ (f : Text). g.O.Sink.took c.loop-name.sink (name_bytes f) c.put_name.new.sink) c.name-item.is c.in_default-put_name.ensures.ok in
    record {
      calm = c.in_default-put_name.ensures.calm ∙ c.loop-name.invariant.calm;
      going = each_on g.O.Sink.took g.met.O.Sink.took_both _ _ _ (flat_map name_bytes) name_bytes (λ x xs. refl) c.args.names.now _ c.name-item.result _ c.loop-name-test.true
          c.loop-name.invariant.going put;
    }

pub returns-in-Err-put_name : goal.returns-in-Err-put_name
returns-in-Err-put_name g c =
    let put = subst (λ (f : Text). TookPart g.O.Sink.took c.loop-name.sink (name_bytes f) c.put_name.new.sink) c.name-item.is c.in-Err-put_name.ensures.part in
    then_put g.O.Sink.took g.O.Sink.faults g.met.O.Sink.took_both c.in_default.ensures
    (stopped g.O.Sink.took g.O.Sink.faults _ _ _ _ _ _ c.loop-name.invariant.calm
    (each_stop g.O.Sink.took g.met.O.Sink.took_both _ _ _ (flat_map name_bytes) name_bytes (λ x xs. refl) c.args.names.now _ c.name-item.result _
    c.loop-name-test.true c.loop-name.invariant.going put)
    c.in-Err-put_name.ensures)

pub returns : goal.returns
returns g c = then_put g.O.Sink.took g.O.Sink.faults g.met.O.Sink.took_both c.in_default.ensures
    (all_put g.O.Sink.took g.O.Sink.faults _ _ _ _ c.loop-name.invariant.calm
    (finish g.O.Sink.took _ _ _ (each_done g.O.Sink.took _ _ (flat_map name_bytes) c.args.names.now _ _ c.loop-name-test.false c.loop-name.invariant.going)))
