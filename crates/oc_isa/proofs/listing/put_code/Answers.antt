use Rattle.std.proofs.Common.{◌∙◌, refl}
use Rattle.oc_io.proofs.Putting.{stopped}
use Rattle.oc_isa.specs.Image.{parts_of}
use Rattle.oc_isa.specs.Listing.{code_line, code_lines}
use Rattle.oc_isa.proofs.Counted.{counted_on, counted_stop}
use Rattle.oc_isa.proofs.listing.put_code.Goals as goal

pub loop-address-preserved : goal.loop-address-preserved
loop-address-preserved g c =
    let among = rw c.deref-placed-items.ensures.value at c.loop-address-test.true in
    let put = rw c.deref-placed-items.ensures.value at c.in_default.ensures.ok in
    record {
      calm = c.in_default.ensures.calm ∙ c.loop-address.invariant.calm;
      going = counted_on g.O.Sink.took g.met.O.Sink.took_both _ _ _ (code_lines (parts_of c.args.image.now)) (code_line (parts_of c.args.image.now)) (λ n x xs. refl)
          c.args.image.now.code.items _ _ _ _ _ among refl c.loop-address.invariant.going put;
    }

pub returns-in-Err : goal.returns-in-Err
returns-in-Err g c =
    let among = rw c.deref-placed-items.ensures.value at c.loop-address-test.true in
    let put = rw c.deref-placed-items.ensures.value at c.in-Err.ensures.part in
    stopped g.O.Sink.took g.O.Sink.faults _ _ _ _ _ _ c.loop-address.invariant.calm
    (counted_stop g.O.Sink.took g.met.O.Sink.took_both _ _ _ (code_lines (parts_of c.args.image.now)) (code_line (parts_of c.args.image.now)) (λ n x xs. refl)
    c.args.image.now.code.items _ _ _ _ _ among refl c.loop-address.invariant.going put)
    c.in-Err.ensures
