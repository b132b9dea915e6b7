use Rattle.std.proofs.Common.{◌≡◌, drop}
use Rattle.std.specs.List.{flat_map}
use Rattle.oc_io.proofs.Going.{Going}
use Rattle.oc_isa.specs.Bytes.{name_bytes}
use Rattle.oc_isa.proofs.bytes.put_names.Given as goal

abbrev pub invariant-loop-name : goal.invariant-loop-name
invariant-loop-name g l = record {
  calm : g.O.Sink.faults l.sink ≡ g.O.Sink.faults l.initial.sink;
  going : Going g.O.Sink.took l.initial.sink l.sink (flat_map name_bytes (drop l.name-index l.names)) (flat_map name_bytes l.names);
}
