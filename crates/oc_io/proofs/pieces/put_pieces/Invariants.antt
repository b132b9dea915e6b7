use Rattle.std.proofs.Common.{◌≡◌, drop}
use Rattle.std.specs.List.{flat_map}
use Rattle.oc_io.proofs.Going.{Going}
use Rattle.oc_io.proofs.pieces.put_pieces.Given as goal

abbrev pub invariant-loop-piece : goal.invariant-loop-piece
invariant-loop-piece g l = record {
  calm : g.O.Sink.faults l.sink ≡ g.O.Sink.faults l.initial.sink;
  going : Going g.O.Sink.took l.initial.sink l.sink (flat_map (λ p. p.now) (drop l.piece-index l.pieces)) (flat_map (λ p. p.now) l.pieces);
}
