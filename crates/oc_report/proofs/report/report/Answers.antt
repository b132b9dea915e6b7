use Rattle.std.proofs.Common.{refl}
use Rattle.oc_report.proofs.Stopping.{ended_written, trapped_written, dark_written, cut_written, part_written}
use Rattle.oc_report.proofs.report.report.Goals as goal

pub returns-in-End-clause-written : goal.returns-in-End-clause-written
returns-in-End-clause-written g c =
    let machine = c.args.prepared.machine in let at = c.args.supply.now in
    let written = rw (c.in-End.ensures.answers.kept) at c.finish_with.ensures.written in
    ended_written g.O.Sink.took g.O.Sink.held g.O.Sink.faults g.met.O.Sink.took_both machine.parts c.args.prepared.sensors.rows ((goal.Supply-dyn g at).left at.1) _ _ _ _ _
    c.in-End.ensures.answers.how c.in-End.ensures.answers.calm c.in-End.ensures.answers.text written

pub returns-in-Trap-clause-written : goal.returns-in-Trap-clause-written
returns-in-Trap-clause-written g c =
    let machine = c.args.prepared.machine in let at = c.args.supply.now in
    let written = rw (c.in-Trap.ensures.answers.kept) at c.finish_with-in-Trap.ensures.written in
    trapped_written g.O.Sink.took g.O.Sink.held g.O.Sink.faults g.met.O.Sink.took_both machine.parts c.args.prepared.sensors.rows ((goal.Supply-dyn g at).left at.1) _ _ _ _ _ _ _
    c.in-Trap.ensures.answers.how c.in-Trap.ensures.answers.calm c.in-Trap.ensures.answers.text written

pub returns-in-Dark-clause-written : goal.returns-in-Dark-clause-written
returns-in-Dark-clause-written g c =
    let machine = c.args.prepared.machine in let at = c.args.supply.now in
    dark_written g.O.Sink.took g.O.Sink.held g.O.Sink.faults g.met.O.Sink.took_both machine.parts c.args.prepared.sensors.rows ((goal.Supply-dyn g at).left at.1) _ _ _ _ _
    c.in-Dark.ensures.answers.how c.in-Dark.ensures.answers.calm c.in-Dark.ensures.answers.text c.flush_with.ensures.nothing c.flush_with.ensures.stays

pub returns-in-Cut-clause-written : goal.returns-in-Cut-clause-written
returns-in-Cut-clause-written g c =
    let machine = c.args.prepared.machine in let at = c.args.supply.now in
    cut_written g.O.Sink.took g.O.Sink.held g.O.Sink.faults g.met.O.Sink.took_both machine.parts c.args.prepared.sensors.rows ((goal.Supply-dyn g at).left at.1) _ _ _ _ _ _
    c.in-Cut.ensures.answers.how c.in-Cut.ensures.answers.calm c.in-Cut.ensures.answers.text c.flush_with-in-Cut.ensures.nothing c.flush_with-in-Cut.ensures.stays

pub returns-clause-written : goal.returns-clause-written
returns-clause-written g c =
    let machine = c.args.prepared.machine in let at = c.args.supply.now in
    part_written g.O.Sink.took g.O.Sink.held g.O.Sink.faults g.met.O.Sink.took_both machine.parts c.args.prepared.sensors.rows ((goal.Supply-dyn g at).left at.1) _ _ _ refl
    c.in-WriteFault.ensures.answers.cause c.in-WriteFault.ensures.answers.part

pub returns-in-End-clause-fits : goal.returns-in-End-clause-fits
returns-in-End-clause-fits g c = λ whole. record { each = c.in-End.ensures.answers.items; places = c.in-End.ensures.answers.places; words = c.in-End.ensures.answers.words }

pub returns-in-Trap-clause-fits : goal.returns-in-Trap-clause-fits
returns-in-Trap-clause-fits g c = λ whole. record { each = c.in-Trap.ensures.answers.items; places = c.in-Trap.ensures.answers.places; words = c.in-Trap.ensures.answers.words }

pub returns-in-Dark-clause-fits : goal.returns-in-Dark-clause-fits
returns-in-Dark-clause-fits g c = λ whole. record { each = c.in-Dark.ensures.answers.items; places = c.in-Dark.ensures.answers.places; words = c.in-Dark.ensures.answers.words }

pub returns-in-Cut-clause-fits : goal.returns-in-Cut-clause-fits
returns-in-Cut-clause-fits g c = λ whole. record { each = c.in-Cut.ensures.answers.items; places = c.in-Cut.ensures.answers.places; words = c.in-Cut.ensures.answers.words }

pub returns-clause-fits : goal.returns-clause-fits
returns-clause-fits g c = λ whole. absurd (whole refl)
