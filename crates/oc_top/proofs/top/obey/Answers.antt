use Rattle.std.proofs.Common.{Some, refl}
use Rattle.oc_command.specs.Sinks.{writes}
use Rattle.oc_top.specs.Answers.{call_for}
use Rattle.oc_command.specs.Commands.{Drill, plans_of}
use Rattle.oc_command.specs.Files.{fetches}
use Rattle.oc_meters.specs.Tally.{readings}
use Rattle.oc_top.proofs.Drilling.{drill_comes}
use Rattle.oc_top.proofs.Metering.{comes_alone}
use Rattle.oc_top.proofs.top.obey.Goals as goal

pub returns-in-Source-clause-comes : goal.returns-in-Source-clause-comes
returns-in-Source-clause-comes g c =
    rw (c.in-Some.is, c.in-Source.is) (comes_alone _ _ _ _ c.without_meters-in-Source.ensures.untold c.without_meters-in-Source.ensures.answer c.obey_source.ensures.comes)

pub returns-in-Audit-clause-comes : goal.returns-in-Audit-clause-comes
returns-in-Audit-clause-comes g c =
    rw (c.in-Some.is, c.in-Audit.is) (comes_alone _ _ _ _ c.without_meters-in-Audit.ensures.untold c.without_meters-in-Audit.ensures.answer c.obey_audit.ensures.comes)

pub drill_by-requires : goal.drill_by-requires
drill_by-requires g c = rw (c.in-Some.is, c.in-Drill.is) at c.requires

pub returns-in-Drill-clause-comes : goal.returns-in-Drill-clause-comes
returns-in-Drill-clause-comes g c =
    rw (c.in-Some.is, c.in-Drill.is) (comes_alone _ _ _ _ c.without_meters-in-Drill.ensures.untold c.without_meters-in-Drill.ensures.answer
    (drill_comes (call_for (plans_of (λ b. (goal.Supply-dyn g (b.vtable, b.value)).number b.value) (λ b. (goal.Supply-dyn g (b.vtable, b.value)).plan b.value) c.args.supplies.items)
    (readings g.M.Meter.kind_of g.M.Meter.numbers c.args.meters.items) (Some (Drill _)) (fetches g.F.Shelf.holds g.F.Shelf.asked g.F.Shelf.faults _ _)
    (writes g.O.Sink.took g.O.Sink.held g.O.Sink.faults _ _)) _ _ refl (g.met.F.Shelf.asked_nothing _) _ c.drill_by.ensures.drilled))

pub returns-in-Exec-clause-comes : goal.returns-in-Exec-clause-comes
returns-in-Exec-clause-comes g c =
    rw (c.in-Some.is, c.in-Exec.is) (comes_alone _ _ _ _ c.without_meters-in-Exec.ensures.untold c.without_meters-in-Exec.ensures.answer
    (c.exec_by.ensures.comes (readings g.M.Meter.kind_of g.M.Meter.numbers c.args.meters.items)))
