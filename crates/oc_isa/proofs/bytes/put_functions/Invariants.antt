use Rattle.std.proofs.Common.{◌≡◌, drop}
use Rattle.std.specs.List.{flat_map}
use Rattle.oc_io.proofs.Going.{Going}
use Rattle.oc_isa.specs.Bytes.{function_bytes}
use Rattle.oc_isa.proofs.bytes.put_functions.Given as goal

abbrev pub invariant-loop-function : goal.invariant-loop-function
invariant-loop-function g l = record {
  calm : g.O.Sink.faults l.sink ≡ g.O.Sink.faults l.initial.sink;
  going : Going g.O.Sink.took l.initial.sink l.sink (flat_map function_bytes (drop l.function-index l.functions)) (flat_map function_bytes l.functions);
}
