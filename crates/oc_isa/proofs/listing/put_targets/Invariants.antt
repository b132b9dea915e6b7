use Rattle.std.proofs.Common.{◌≡◌, ◌+◌, drop, map}
use Rattle.oc_io.proofs.Going.{Going}
use Rattle.oc_isa.specs.Listing.{target_lines}
use Rattle.oc_isa.proofs.listing.put_targets.Given as goal

abbrev pub invariant-loop-place : goal.invariant-loop-place
invariant-loop-place g l = record {
  calm : g.O.Sink.faults l.sink ≡ g.O.Sink.faults l.initial.sink;
  going : Going g.O.Sink.took l.initial.sink l.sink (target_lines (l.place + 1) (map (λ v. v.items) (drop l.place l.regions))) (target_lines 1 (map (λ v. v.items) l.regions));
}
