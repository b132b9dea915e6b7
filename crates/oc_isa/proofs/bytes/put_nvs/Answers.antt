use Rattle.std.proofs.Common.{refl, ◌∙◌, rules, get_or, subst}
use Rattle.std.specs.Prelude.{pos}
use Rattle.oc_io.specs.Faults.{TookPart}
use Rattle.oc_io.proofs.Going.{Going, begin, go_on, stop, finish}
use Rattle.oc_io.proofs.Putting.{all_put, stopped, then_put}
use Rattle.oc_isa.specs.declared.image.ImageNv.{ImageNv}
use Rattle.oc_isa.specs.Bytes.{Bytes, number_bytes, nvs_bytes}
use Rattle.oc_isa.proofs.Fields.{nv_bytes, nvs_more, nvs_end}
use Rattle.oc_isa.proofs.bytes.put_nvs.Goals as goal

none : ImageNv
none = record { words = 0; initial = pos 0 }

pub loop-place-init : goal.loop-place-init
loop-place-init g c = record { calm = refl; going = begin g.O.Sink.took g.met.O.Sink.took_nothing _ _ }

pub loop-place-preserved : goal.loop-place-preserved
unfolding number_bytes none
loop-place-preserved g c =
    let more = nvs_more c.args.names.now c.args.nvs.now c.loop-place.place c.index-names-place.result none c.loop-place-test.true c.requires.told in
    let still = subst (λ (rest : Bytes). Going g.O.Sink.took c.put_number.new.sink c.loop-place.sink rest (nvs_bytes c.args.names.now c.args.nvs.now)) more c.loop-place.invariant.going in
    let put : g.O.Sink.took c.loop-place.sink (nv_bytes (get_or c.args.names.now c.loop-place.place c.index-names-place.result) (get_or c.args.nvs.now c.loop-place.place none))
    c.put_nv.new.sink = search rules in
    record { calm = c.in_default-put_nv.ensures.calm ∙ c.loop-place.invariant.calm; going = go_on g.O.Sink.took g.met.O.Sink.took_both _ _ _ _ _ _ still put }

pub returns-in-Err-put_nv : goal.returns-in-Err-put_nv
unfolding number_bytes none
returns-in-Err-put_nv g c =
    let more = nvs_more c.args.names.now c.args.nvs.now c.loop-place.place c.index-names-place.result none c.loop-place-test.true c.requires.told in
    let still = subst (λ (rest : Bytes). Going g.O.Sink.took c.put_number.new.sink c.loop-place.sink rest (nvs_bytes c.args.names.now c.args.nvs.now)) more c.loop-place.invariant.going in
    let put : TookPart g.O.Sink.took c.loop-place.sink
    (nv_bytes (get_or c.args.names.now c.loop-place.place c.index-names-place.result) (get_or c.args.nvs.now c.loop-place.place none)) c.put_nv.new.sink = search rules in
    then_put g.O.Sink.took g.O.Sink.faults g.met.O.Sink.took_both c.in_default.ensures
    (stopped g.O.Sink.took g.O.Sink.faults _ _ _ _ _ _ c.loop-place.invariant.calm (stop g.O.Sink.took g.met.O.Sink.took_both _ _ _ _ _ _ still put) c.in-Err-put_nv.ensures)

pub returns : goal.returns
returns g c =
    let nothing = nvs_end c.args.names.now c.args.nvs.now c.loop-place.place c.loop-place-test.false in
    let still = subst (λ (rest : Bytes). Going g.O.Sink.took c.put_number.new.sink c.loop-place.sink rest (nvs_bytes c.args.names.now c.args.nvs.now)) nothing c.loop-place.invariant.going in
    then_put g.O.Sink.took g.O.Sink.faults g.met.O.Sink.took_both c.in_default.ensures (all_put g.O.Sink.took g.O.Sink.faults _ _ _ _ c.loop-place.invariant.calm (finish g.O.Sink.took _ _ _ still))
