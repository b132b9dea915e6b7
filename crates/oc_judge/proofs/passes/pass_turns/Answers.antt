use Rattle.std.proofs.Common.{rules, sym, ap, subst}
use Rattle.oc_judge.specs.Frames.{frames_view}
use Rattle.oc_judge.specs.Going.{program_of, regions_of}
use Rattle.oc_judge.specs.Passes.{HasTurns, Reaches}
use Rattle.oc_judge.specs.Stores.{completion_at}
use Rattle.oc_judge.specs.Ways.{way_view}
use Rattle.oc_judge.proofs.Skips.{passes}
use Rattle.oc_judge.proofs.passes.pass_turns.Goals as goal

pub returns-in_ok-enter_times-in-Some-clause-reached : goal.returns-in_ok-enter_times-in-Some-clause-reached
returns-in_ok-enter_times-in-Some-clause-reached c =
    let p = program_of c.args.run.now in
    let rs = regions_of c.args.run.now in
    let w = way_view c.args.way.now in
    let σ = c.args.way.now.store in
    let τ = c.enter_times.new.self in
    let fs = frames_view c.leave_first.new.frames.items in
    let turns : HasTurns (frames_view c.args.way.now.frames.items) fs c.in-Some.block c.in-Some.times = search rules in
    subst (λ out. Reaches p rs w (record w { frames = fs; out = out })) (sym (ap (λ o. completion_at o τ) c.in-Went.is))
    (passes p rs w fs σ τ c.in-Some.block c.in-Some.times turns (ap (λ o. completion_at o σ) c.in-Went.is) (c.has_event.ensures c.if-has_event.false) c.in_ok-enter_times-in-Some.ensures)
