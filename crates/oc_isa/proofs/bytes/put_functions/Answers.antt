use Rattle.std.proofs.Common.{◌∙◌, refl, subst}
use Rattle.std.specs.List.{flat_map}
use Rattle.oc_io.specs.Faults.{TookPart}
use Rattle.oc_io.proofs.Going.{begin, finish}
use Rattle.oc_io.proofs.Each.{each_on, each_stop, each_done}
use Rattle.oc_io.proofs.Putting.{all_put, stopped, then_put}
use Rattle.oc_isa.specs.declared.image.ImageFunction.{ImageFunction}
use Rattle.oc_isa.specs.Bytes.{function_bytes}
use Rattle.oc_isa.proofs.bytes.put_functions.Goals as goal

pub loop-function-init : goal.loop-function-init
loop-function-init g c = record { calm = refl; going = begin g.O.Sink.took g.met.O.Sink.took_nothing _ _ }

pub loop-function-preserved : goal.loop-function-preserved
loop-function-preserved g c =
    let put = subst (λ (f : ImageFunction). g.O.Sink.took c.loop-function.sink (function_bytes f) c.put_function.new.sink) c.function-item.is c.in_default-put_function.ensures.ok in
    record {
      calm = c.in_default-put_function.ensures.calm ∙ c.loop-function.invariant.calm;
      going = each_on g.O.Sink.took g.met.O.Sink.took_both _ _ _ (flat_map function_bytes) function_bytes (λ x xs. refl) c.args.functions.now _ c.function-item.result _
          c.loop-function-test.true c.loop-function.invariant.going put;
    }

pub returns-in-Err-put_function : goal.returns-in-Err-put_function
returns-in-Err-put_function g c =
    let put = subst (λ (f : ImageFunction). TookPart g.O.Sink.took c.loop-function.sink (function_bytes f) c.put_function.new.sink) c.function-item.is c.in-Err-put_function.ensures.part in
    then_put g.O.Sink.took g.O.Sink.faults g.met.O.Sink.took_both c.in_default.ensures
    (stopped g.O.Sink.took g.O.Sink.faults _ _ _ _ _ _ c.loop-function.invariant.calm
    (each_stop g.O.Sink.took g.met.O.Sink.took_both _ _ _ (flat_map function_bytes) function_bytes (λ x xs. refl) c.args.functions.now _ c.function-item.result _
    c.loop-function-test.true c.loop-function.invariant.going put)
    c.in-Err-put_function.ensures)

pub returns : goal.returns
returns g c = then_put g.O.Sink.took g.O.Sink.faults g.met.O.Sink.took_both c.in_default.ensures
    (all_put g.O.Sink.took g.O.Sink.faults _ _ _ _ c.loop-function.invariant.calm
    (finish g.O.Sink.took _ _ _ (each_done g.O.Sink.took _ _ (flat_map function_bytes) c.args.functions.now _ _ c.loop-function-test.false c.loop-function.invariant.going)))
