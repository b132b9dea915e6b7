use Rattle.std.proofs.Common.{◌≡◌, drop, map}
use Rattle.std.specs.List.{flat_map}
use Rattle.oc_io.proofs.Going.{Going}
use Rattle.oc_isa.specs.Bytes.{target_bytes, list_bytes}
use Rattle.oc_isa.proofs.bytes.put_regions.Given as goal

abbrev pub invariant-loop-targets : goal.invariant-loop-targets
invariant-loop-targets g l = record {
  calm : g.O.Sink.faults l.sink ≡ g.O.Sink.faults l.initial.sink;
  going : Going g.O.Sink.took l.initial.sink l.sink (flat_map (list_bytes target_bytes) (map (λ v. v.items) (drop l.targets-index l.regions)))
      (flat_map (list_bytes target_bytes) (map (λ v. v.items) l.regions));
}
