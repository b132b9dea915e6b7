use Rattle.std.proofs.Common.{◌≡◌, ◌++◌, List, drop, take}
use Rattle.oc_meters.specs.Tally.{Reading, readings, tell_readings}
use Rattle.oc_meters.proofs.meter.tell_all.Given as goal

abbrev pub invariant-loop-meter : goal.invariant-loop-meter
invariant-loop-meter g l =
    let now : List Reading = readings g.M.Meter.kind_of g.M.Meter.numbers l.meter-items in
    let old : List Reading = readings g.M.Meter.kind_of g.M.Meter.numbers l.fn.meters.items in
    now ≡ tell_readings l.item (take l.meter-index old) ++ drop l.meter-index old
