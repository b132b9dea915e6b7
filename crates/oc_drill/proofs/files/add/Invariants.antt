use Rattle.std.proofs.Common.{◌≡◌, ◌++◌, drop}
use Rattle.std.specs.List.{flat_map}
use Rattle.oc_drill.proofs.files.add.Given as goal

abbrev pub invariant-loop-piece : goal.invariant-loop-piece
invariant-loop-piece l = l.text.items ++ flat_map (λ p. p.now) (drop l.piece-index l.pieces) ≡ l.fn.text.items ++ flat_map (λ p. p.now) l.pieces
