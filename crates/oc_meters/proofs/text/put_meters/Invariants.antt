use Rattle.std.proofs.Common.{◌≡◌, drop}
use Rattle.oc_io.proofs.Going.{Going}
use Rattle.oc_meters.proofs.Fields.{lines_of}
use Rattle.oc_meters.proofs.text.put_meters.Given as goal

abbrev pub invariant-loop-meter : goal.invariant-loop-meter
invariant-loop-meter g l = record {
  calm : g.E.Sink.faults l.err ≡ g.E.Sink.faults l.fn.err;
  going : Going g.E.Sink.took l.fn.err l.err (lines_of g.M.Meter.kind_of g.M.Meter.numbers (drop l.meter-index l.meters)) (lines_of g.M.Meter.kind_of g.M.Meter.numbers l.meters);
}
