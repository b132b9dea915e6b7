use Rattle.std.proofs.Common.{◌≡◌, sym, subst, refl, arith}
use Rattle.oc_meters.specs.Tally.{reading, tell_reading}
use Rattle.oc_meters.proofs.Half.{half_on}
use Rattle.oc_meters.proofs.meter.tell_all.Goals as goal

pub loop-meter-preserved : goal.loop-meter-preserved
loop-meter-preserved g c =
    let told = subst (λ m. reading g.M.Meter.kind_of g.M.Meter.numbers c.tell.new.self ≡ tell_reading c.args.item.now (reading g.M.Meter.kind_of g.M.Meter.numbers m)) (sym c.meter-item.is)
    (rw (c.tell.ensures.kind, c.tell.ensures.numbers) refl) in
    half_on (reading g.M.Meter.kind_of g.M.Meter.numbers) (tell_reading c.args.item.now) _ _ _ _ _ c.loop-meter.invariant (omega arith) c.meter-item.is told
