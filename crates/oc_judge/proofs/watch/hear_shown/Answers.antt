use Rattle.std.proofs.Common.{◌≡◌, sym, subst, ap}
use Rattle.oc_steps.specs.Fold.{Says}
use Rattle.oc_judge.specs.Going.{program_of, regions_of}
use Rattle.oc_judge.specs.Stores.{event_view}
use Rattle.oc_judge.specs.Watches.{watch_view}
use Rattle.oc_judge.specs.Ways.{Comes, next_view, way_view}
use Rattle.oc_judge.specs.declared.way.Next.TheVariants as nexts
use Rattle.oc_judge.proofs.Hearing.{shown}
use Rattle.oc_judge.proofs.watch.hear_shown.Goals as goal

pub returns-in_ok-make_room-in-Says : goal.returns-in_ok-make_room-in-Says
returns-in_ok-make_room-in-Says c nv =
    let p = program_of c.args.run.now in
    let rs = regions_of c.args.run.now in
    let w = watch_view c.args.watch.now in
    let v = c.go.new.way in
    let u = c.make_room.new.way in
    let e = event_view c.in-Says.event in
    let comes : Comes p rs w.now (next_view (nexts.Says c.in-Says.event) v) = subst (λ n. Comes p rs w.now (next_view n v)) c.in-Says.is c.in_ok-event.ensures.next in
    let same : way_view u ≡ way_view v = c.in_ok-make_room-in-Says.ensures.same in
    shown p rs nv w c.args.what e (way_view u) (record c.args.watch.now { now = c.tell_shown.new.way }) c.tell_shown.result
    (subst (λ y. Comes p rs w.now (Says e y)) (sym same) comes) (c.tell_shown.ensures.right p nv c.requires) (λ t. ap (λ y. record w { now = y }) (c.tell_shown.ensures.told t p nv c.requires))
