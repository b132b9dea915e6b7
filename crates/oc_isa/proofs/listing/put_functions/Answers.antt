use Rattle.std.proofs.Common.{◌∙◌, refl, subst}
use Rattle.oc_io.specs.Faults.{TookPart}
use Rattle.oc_io.proofs.Going.{begin, finish}
use Rattle.oc_io.proofs.Each.{each_on, each_stop, each_done}
use Rattle.oc_io.proofs.Putting.{all_put, stopped}
use Rattle.oc_isa.specs.declared.image.ImageFunction.{ImageFunction}
use Rattle.oc_isa.specs.Listing.{function_line, function_lines}
use Rattle.oc_isa.proofs.listing.put_functions.Goals as goal

pub loop-function-init : goal.loop-function-init
loop-function-init g c = record { calm = refl; going = begin g.O.Sink.took g.met.O.Sink.took_nothing _ _ }

pub loop-function-preserved : goal.loop-function-preserved
loop-function-preserved g c =
    let put = subst (λ (f : ImageFunction). g.O.Sink.took c.loop-function.sink (function_line f) c.put_function.new.sink) c.function-item.is c.in_default.ensures.ok in
    record {
      calm = c.in_default.ensures.calm ∙ c.loop-function.invariant.calm;
      going = each_on g.O.Sink.took g.met.O.Sink.took_both _ _ _ function_lines function_line (λ x xs. refl) c.args.functions.now _ c.function-item.result _
          c.loop-function-test.true c.loop-function.invariant.going put;
    }

pub returns-in-Err : goal.returns-in-Err
returns-in-Err g c =
    let put = subst (λ (f : ImageFunction). TookPart g.O.Sink.took c.loop-function.sink (function_line f) c.put_function.new.sink) c.function-item.is c.in-Err.ensures.part in
    stopped g.O.Sink.took g.O.Sink.faults _ _ _ _ _ _ c.loop-function.invariant.calm
    (each_stop g.O.Sink.took g.met.O.Sink.took_both _ _ _ function_lines function_line (λ x xs. refl) c.args.functions.now _ c.function-item.result _ c.loop-function-test.true
    c.loop-function.invariant.going put)
    c.in-Err.ensures

pub returns : goal.returns
returns g c = all_put g.O.Sink.took g.O.Sink.faults _ _ _ _ c.loop-function.invariant.calm
    (finish g.O.Sink.took _ _ _ (each_done g.O.Sink.took _ _ function_lines c.args.functions.now _ _ c.loop-function-test.false c.loop-function.invariant.going))
