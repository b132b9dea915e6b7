use Rattle.std.proofs.Common.{◌≡◌, drop}
use Rattle.oc_io.proofs.Going.{Going}
use Rattle.oc_isa.specs.Listing.{region_lines}
use Rattle.oc_isa.proofs.listing.put_region.Given as goal

abbrev pub invariant-loop-target : goal.invariant-loop-target
invariant-loop-target g l = record {
  calm : g.O.Sink.faults l.sink ≡ g.O.Sink.faults l.initial.sink;
  going : Going g.O.Sink.took l.initial.sink l.sink (region_lines l.region (drop l.target-index l.targets)) (region_lines l.region l.targets);
}
