use Rattle.std.proofs.Common.{subst, sym, None, Some}
use Rattle.oc_meters.specs.Tally.{readings}
use Rattle.oc_command.specs.Meters.{told_by, told_of}
use Rattle.oc_command.specs.Sinks.{writes}
use Rattle.oc_top.specs.Answers.{Comes, call_of}
use Rattle.oc_command.specs.Commands.{report, run_words}
use Rattle.oc_command.specs.Files.{fetches}
use Rattle.oc_top.proofs.Asking.{comes_for, comes_none, run_is}
use Rattle.oc_top.proofs.Metering.{comes_alone}
use Rattle.oc_command.proofs.Taking.{untouched}
use Rattle.oc_top.proofs.top.run_by.Goals as goal

pub returns-in-Some-clause-comes : goal.returns-in-Some-clause-comes
returns-in-Some-clause-comes g c =
    comes_for (run_words c.args.words) _ _ (fetches g.F.Shelf.holds g.F.Shelf.asked g.F.Shelf.faults _ _) (writes g.O.Sink.took g.O.Sink.held g.O.Sink.faults _ _) _ _
    (run_is c.args.supplies.items (λ b. (goal.Supply-dyn g (b.vtable, b.value)).number b.value) (λ b. (goal.Supply-dyn g (b.vtable, b.value)).plan b.value)
    (readings g.M.Meter.kind_of g.M.Meter.numbers c.args.meters.items) (run_words c.args.words) _ _ _ _ c.wanted_meters-meters.ensures c.in-Some.ensures)
    (subst (λ v. Comes (call_of (run_words c.args.words)
    (Some (report ((goal.Supply-dyn g v).plan v.1) (told_of g.M.Meter.kind_of g.M.Meter.numbers c.wanted_meters-meters.result)))
    (fetches g.F.Shelf.holds g.F.Shelf.asked g.F.Shelf.faults c.args.shelf.now c.run.new.shelf) (writes g.O.Sink.took g.O.Sink.held g.O.Sink.faults c.args.out.now c.run.new.out))
    (told_by (told_of g.M.Meter.kind_of g.M.Meter.numbers c.run.result.meters)) c.run.result.answer)
    c.deref_box_mut-1.ensures.value.1 c.run.ensures.comes)

pub returns-in-None-clause-comes : goal.returns-in-None-clause-comes
returns-in-None-clause-comes g c =
    comes_alone _ _ _ _ c.without_meters.ensures.untold c.without_meters.ensures.answer
    (comes_none (call_of (run_words c.args.words) _ (fetches g.F.Shelf.holds g.F.Shelf.asked g.F.Shelf.faults _ _) (writes g.O.Sink.took g.O.Sink.held g.O.Sink.faults _ _))
    (sym (run_is c.args.supplies.items (λ b. (goal.Supply-dyn g (b.vtable, b.value)).number b.value) (λ b. (goal.Supply-dyn g (b.vtable, b.value)).plan b.value)
    (readings g.M.Meter.kind_of g.M.Meter.numbers c.args.meters.items) (run_words c.args.words) _ _ _ None c.wanted_meters-meters.ensures c.in-None.ensures))
    (g.met.F.Shelf.asked_nothing _) (untouched g.O.Sink.took g.O.Sink.held g.O.Sink.faults g.met.O.Sink.took_nothing _))
