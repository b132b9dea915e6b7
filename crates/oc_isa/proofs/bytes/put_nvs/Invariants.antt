use Rattle.std.proofs.Common.{◌≡◌, drop}
use Rattle.oc_io.proofs.Going.{Going}
use Rattle.oc_isa.specs.Bytes.{nvs_bytes}
use Rattle.oc_isa.proofs.bytes.put_nvs.Given as goal

abbrev pub invariant-loop-place : goal.invariant-loop-place
invariant-loop-place g l = record {
  calm : g.O.Sink.faults l.sink ≡ g.O.Sink.faults l.initial.sink;
  going : Going g.O.Sink.took l.initial.sink l.sink (nvs_bytes (drop l.place l.names) (drop l.place l.nvs)) (nvs_bytes l.names l.nvs);
}
