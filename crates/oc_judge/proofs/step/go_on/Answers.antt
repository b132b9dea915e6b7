use Rattle.std.proofs.Common.{sym, subst, IfOk, ◌++◌}
use Rattle.oc_meaning.specs.Exec.{Went}
use Rattle.oc_judge.specs.Frames.{frame_view, frames_view}
use Rattle.oc_judge.specs.Going.{step_here}
use Rattle.oc_judge.specs.Leading.{LeadsTo}
use Rattle.oc_judge.proofs.step.go_on.Goals as goal

pub returns-in-Scoped : goal.returns-in-Scoped
returns-in-Scoped c =
    let r = c.args.run.now in
    subst
    (λ f. IfOk c.perform.result (λ g. LeadsTo r (step_here r (frame_view f ++ frames_view c.args.frames.now.items) (Went c.args.store.now)) g (frames_view c.perform.new.frames.items) c.perform.new.store))
    (sym c.in-Scoped.is) c.perform.ensures
