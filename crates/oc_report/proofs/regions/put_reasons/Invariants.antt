use Rattle.std.proofs.Common.{◌≡◌, drop}
use Rattle.oc_io.proofs.Going.{Going}
use Rattle.oc_report.specs.RegionLines.{reason_lines}
use Rattle.oc_report.proofs.regions.put_reasons.Given as goal

abbrev pub invariant-loop-reason : goal.invariant-loop-reason
invariant-loop-reason g l = record {
  calm : g.O.Sink.faults l.sink ≡ g.O.Sink.faults l.initial.sink;
  going : Going g.O.Sink.took l.initial.sink l.sink (reason_lines l.marked (drop l.reason-index l.reasons)) (reason_lines l.marked l.reasons);
}
