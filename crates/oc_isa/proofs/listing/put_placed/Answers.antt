use Rattle.std.proofs.Common.{decimal, refl}
use Rattle.oc_io.proofs.Putting.{ended, stopped}
use Rattle.oc_isa.proofs.Ending.{after_front, ends_whole, ends_part, part_of_front, two_fields}
use Rattle.oc_isa.proofs.listing.put_placed.Goals as goal

pub returns-in-Err : goal.returns-in-Err
returns-in-Err g c = stopped g.O.Sink.took g.O.Sink.faults _ _ _ _ _ _ refl
    (part_of_front g.O.Sink.took _ _ _ _ _ (two_fields (decimal c.args.address) (decimal c.args.placed.now.site) _) c.in-Err.ensures.part)
    c.in-Err.ensures

pub returns : goal.returns
returns g c =
    let front = after_front g.O.Sink.took _ _ _ _ _ (two_fields (decimal c.args.address) (decimal c.args.placed.now.site) _) c.in_default.ensures.ok in
    ended g.O.Sink.took g.O.Sink.faults _ _ _ _ _ _ c.in_default.ensures.calm (ends_whole g.O.Sink.took g.met.O.Sink.took_both _ _ _ _ _ front) (ends_part g.O.Sink.took g.met.O.Sink.took_both _ _ _ _ _ front)
    c.put_instr.ensures
