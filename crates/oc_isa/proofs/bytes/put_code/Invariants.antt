use Rattle.std.proofs.Common.{◌≡◌, drop}
use Rattle.std.specs.List.{flat_map}
use Rattle.oc_io.proofs.Going.{Going}
use Rattle.oc_isa.specs.Bytes.{placed_bytes}
use Rattle.oc_isa.proofs.bytes.put_code.Given as goal

abbrev pub invariant-loop-placed : goal.invariant-loop-placed
invariant-loop-placed g l = record {
  calm : g.O.Sink.faults l.sink ≡ g.O.Sink.faults l.initial.sink;
  going : Going g.O.Sink.took l.initial.sink l.sink (flat_map placed_bytes (drop l.placed-index l.code)) (flat_map placed_bytes l.code);
}
