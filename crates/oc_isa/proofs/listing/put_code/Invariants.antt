use Rattle.std.proofs.Common.{◌≡◌, drop}
use Rattle.oc_io.proofs.Going.{Going}
use Rattle.oc_isa.specs.Image.{parts_of}
use Rattle.oc_isa.specs.Listing.{code_lines}
use Rattle.oc_isa.proofs.listing.put_code.Given as goal

abbrev pub invariant-loop-address : goal.invariant-loop-address
invariant-loop-address g l = record {
  calm : g.O.Sink.faults l.sink ≡ g.O.Sink.faults l.initial.sink;
  going : Going g.O.Sink.took l.initial.sink l.sink (code_lines (parts_of l.image) l.address (drop l.address l.image.code.items)) (code_lines (parts_of l.image) 0 l.image.code.items);
}
