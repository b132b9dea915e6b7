use Rattle.std.proofs.Common.{refl, ◌∙◌}
use Rattle.std.specs.List.{flat_map}
use Rattle.oc_io.proofs.Going.{begin, finish}
use Rattle.oc_io.proofs.Each.{each_on, each_stop, each_done}
use Rattle.oc_io.proofs.Putting.{all_put, stopped}
use Rattle.oc_io.proofs.pieces.put_pieces.Goals as goal

pub loop-piece-init : goal.loop-piece-init
loop-piece-init g c = record { calm = refl; going = begin g.O.Sink.took g.met.O.Sink.took_nothing _ _ }

pub loop-piece-preserved : goal.loop-piece-preserved
loop-piece-preserved g c = record {
  calm = c.in_default.ensures.puts.calm ∙ c.loop-piece.invariant.calm;
  going = each_on g.O.Sink.took g.met.O.Sink.took_both _ _ _ (flat_map (λ p. p.now)) (λ p. p.now) (λ x xs. refl) c.args.pieces.now _ _ _ c.loop-piece-test.true
      c.loop-piece.invariant.going c.in_default.ensures.puts.ok;
}

pub returns-in-Err : goal.returns-in-Err
returns-in-Err g c = stopped g.O.Sink.took g.O.Sink.faults _ _ _ _ _ _ c.loop-piece.invariant.calm
    (each_stop g.O.Sink.took g.met.O.Sink.took_both _ _ _ (flat_map (λ p. p.now)) (λ p. p.now) (λ x xs. refl) c.args.pieces.now _ _ _ c.loop-piece-test.true
    c.loop-piece.invariant.going c.in-Err.ensures.puts.part)
    c.in-Err.ensures.puts

pub returns : goal.returns
returns g c =
    all_put g.O.Sink.took g.O.Sink.faults _ _ _ _ c.loop-piece.invariant.calm
    (finish g.O.Sink.took _ _ _ (each_done g.O.Sink.took _ _ (flat_map (λ p. p.now)) c.args.pieces.now _ _ c.loop-piece-test.false c.loop-piece.invariant.going))
