use Rattle.std.proofs.Common.{◌≡◌, ◌++◌, sym, ap, ◌∙◌, subst}
use Rattle.oc_meaning.specs.Exec.{Went}
use Rattle.oc_judge.specs.Frames.{frame_view, frames_view}
use Rattle.oc_judge.specs.Going.{step_here}
use Rattle.oc_judge.specs.Leading.{LeadsTo}
use Rattle.oc_judge.specs.Stores.{completion_at}
use Rattle.oc_judge.proofs.Skips.{frames_more}
use Rattle.oc_judge.proofs.step.step.Goals as goal

pub returns-in_ok-going-in-Some-clause-step : goal.returns-in_ok-going-in-Some-clause-step
returns-in_ok-going-in-Some-clause-step c =
    let r = c.args.run.now in
    let fs = frames_view c.pop.new.self.items in
    let f = frame_view c.in-Some.frame in
    let o = completion_at c.args.completion c.args.store.now in
    let popped : frames_view c.args.frames.now.items ≡ f ++ fs = ap frames_view c.in-Some.ensures.items ∙ frames_more c.pop.new.self.items c.in-Some.frame in
    let first : step_here r (frames_view c.args.frames.now.items) o ≡ step_here r (f ++ fs) (Went c.args.store.now) =
    ap (λ l. step_here r l o) popped ∙ ap (λ q. step_here r (f ++ fs) (completion_at q c.args.store.now)) c.in-Went.is in
    subst (λ s. LeadsTo r s c.in_ok-going-in-Some.going (frames_view c.go_on.new.frames.items) c.go_on.new.store) (sym first) c.in_ok-going-in-Some.ensures
