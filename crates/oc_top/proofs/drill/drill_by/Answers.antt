use Rattle.std.proofs.Common.{refl, subst, None}
use Rattle.oc_command.specs.Sinks.{writes}
use Rattle.oc_top.specs.Drills.{IsDrilled}
use Rattle.oc_top.proofs.Drilling.{chosen_drill}
use Rattle.oc_command.proofs.Taking.{untouched}
use Rattle.oc_top.proofs.drill.drill_by.Goals as goal

pub returns-in-Some-clause-drilled : goal.returns-in-Some-clause-drilled
returns-in-Some-clause-drilled g c =
    chosen_drill c.args.supplies.items (λ b. (goal.Supply-dyn g (b.vtable, b.value)).number b.value) (λ b. (goal.Supply-dyn g (b.vtable, b.value)).plan b.value) _
    (writes g.O.Sink.took g.O.Sink.held g.O.Sink.faults _ _) _ _ c.in-Some.ensures
    (subst (λ v. IsDrilled c.args.turns ((goal.Supply-dyn g v).plan v.1) (writes g.O.Sink.took g.O.Sink.held g.O.Sink.faults c.args.out.now c.drill.new.out) c.drill.result)
    c.deref_box_mut-1.ensures.value.1 c.drill.ensures.drilled)

pub returns-in-None-clause-drilled : goal.returns-in-None-clause-drilled
returns-in-None-clause-drilled g c =
    chosen_drill c.args.supplies.items (λ b. (goal.Supply-dyn g (b.vtable, b.value)).number b.value) (λ b. (goal.Supply-dyn g (b.vtable, b.value)).plan b.value) _
    (writes g.O.Sink.took g.O.Sink.held g.O.Sink.faults _ _) _ None c.in-None.ensures (refl, untouched g.O.Sink.took g.O.Sink.held g.O.Sink.faults g.met.O.Sink.took_nothing _)
