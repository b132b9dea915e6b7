use Rattle.std.proofs.Common.{[], subst, sym, None, Some}
use Rattle.oc_command.specs.Sinks.{writes}
use Rattle.oc_top.specs.Answers.{Comes, call_of}
use Rattle.oc_command.specs.Commands.{executing, run_words}
use Rattle.oc_command.specs.Files.{fetches}
use Rattle.oc_top.proofs.Asking.{comes_for, comes_none, image_is}
use Rattle.oc_command.proofs.Taking.{untouched}
use Rattle.oc_top.proofs.exec.exec_by.Goals as goal

pub returns-in-Some-clause-comes : goal.returns-in-Some-clause-comes
returns-in-Some-clause-comes g c = λ meters.
    comes_for (run_words c.args.words) _ _ (fetches g.F.Shelf.holds g.F.Shelf.asked g.F.Shelf.faults _ _) (writes g.O.Sink.took g.O.Sink.held g.O.Sink.faults _ _) _ _
    (image_is c.args.supplies.items (λ b. (goal.Supply-dyn g (b.vtable, b.value)).number b.value) (λ b. (goal.Supply-dyn g (b.vtable, b.value)).plan b.value) meters
    (run_words c.args.words) _ c.in-Some.ensures)
    (subst (λ v. Comes (call_of (run_words c.args.words) (Some (executing ((goal.Supply-dyn g v).plan v.1)))
    (fetches g.F.Shelf.holds g.F.Shelf.asked g.F.Shelf.faults c.args.shelf.now c.exec.new.shelf) (writes g.O.Sink.took g.O.Sink.held g.O.Sink.faults c.args.out.now c.exec.new.out))
    [] c.exec.result) c.deref_box_mut-1.ensures.value.1 c.exec.ensures.comes)

pub returns-in-None-clause-comes : goal.returns-in-None-clause-comes
returns-in-None-clause-comes g c = λ meters.
    comes_none (call_of (run_words c.args.words) _ (fetches g.F.Shelf.holds g.F.Shelf.asked g.F.Shelf.faults _ _) (writes g.O.Sink.took g.O.Sink.held g.O.Sink.faults _ _))
    (sym (image_is c.args.supplies.items (λ b. (goal.Supply-dyn g (b.vtable, b.value)).number b.value) (λ b. (goal.Supply-dyn g (b.vtable, b.value)).plan b.value) meters
    (run_words c.args.words) None c.in-None.ensures)) (g.met.F.Shelf.asked_nothing _) (untouched g.O.Sink.took g.O.Sink.held g.O.Sink.faults g.met.O.Sink.took_nothing _)
