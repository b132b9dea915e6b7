use Rattle.std.proofs.Common.{◌≡◌, drop}
use Rattle.oc_io.proofs.Going.{Going}
use Rattle.oc_meters.specs.Lines.{meter_line}
use Rattle.oc_meters.specs.Tally.{reading}
use Rattle.oc_meters.proofs.Fields.{number_fields}
use Rattle.oc_meters.proofs.text.put_meter.Given as goal

abbrev pub invariant-loop-place : goal.invariant-loop-place
invariant-loop-place g l = record {
  calm : g.E.Sink.faults l.err ≡ g.E.Sink.faults l.fn.err;
  going : Going g.E.Sink.took l.fn.err l.err (number_fields (drop l.place (g.M.Meter.numbers l.meter))) (meter_line (reading g.M.Meter.kind_of g.M.Meter.numbers l.meter));
}
