use Rattle.std.proofs.Common.{◌≡◌, refl, subst}
use Rattle.oc_steps.specs.Fold.{Stands}
use Rattle.oc_judge.specs.Frames.{frames_view}
use Rattle.oc_judge.specs.Going.{IsKept, program_of, regions_of, step_here}
use Rattle.oc_judge.specs.Leading.{LeadsOn}
use Rattle.oc_judge.specs.Stores.{completion_at}
use Rattle.oc_judge.specs.Ways.{ahead_view, way_view}
use Rattle.oc_judge.proofs.Advancing.{stands}
use Rattle.oc_judge.proofs.Leading.{goes_far}
use Rattle.oc_judge.proofs.Skips.{comes, stays}
use Rattle.oc_judge.proofs.way.advance.Goals as goal

pub returns-in-None-clause-next : goal.returns-in-None-clause-next
returns-in-None-clause-next c =
    let r = c.args.run.now in
    let w = way_view c.args.way.now in
    let fs = frames_view c.step.new.frames.items in
    let σ = c.step.new.store in
    let v = record w { frames = fs; out = completion_at c.args.way.now.completion σ } in
    let s = step_here r w.frames w.out in
    let kept = subst (λ q. IsKept q w.frames c.args.way.now.store fs σ) c.in-None.is c.in_ok-stepped.ensures.kept in
    let same : v ≡ w = λ i. record w { frames = kept.0 i; out = completion_at c.args.way.now.completion (kept.1 i) } in
    comes (program_of r) (regions_of r) w w (Stands v) (stays (program_of r) (regions_of r) w w refl)
    (stands w v s (subst (λ q. LeadsOn r s q fs σ) c.in-None.is c.in_ok-stepped.ensures.step) same)

pub returns-in-Some-clause-next : goal.returns-in-Some-clause-next
returns-in-Some-clause-next c =
    let r = c.args.run.now in
    let w = way_view c.args.way.now in
    let fs = frames_view c.step.new.frames.items in
    let σ = c.step.new.store in
    goes_far (program_of r) (regions_of r) w (record w { frames = fs; out = completion_at c.args.way.now.completion σ }) (ahead_view c.find_ahead-ahead.result c.find_ahead-ahead.new.way) c.in-Some.going fs σ
    (record { sets = refl; inside = refl; over = refl }) (subst (λ q. LeadsOn r (step_here r w.frames w.out) q fs σ) c.in-Some.is c.in_ok-stepped.ensures.step) c.find_ahead-ahead.ensures.next
