use Rattle.std.proofs.Common.{rules, ◌≡◌, true}
use Rattle.oc_judge.specs.Frames.{frames_view}
use Rattle.oc_judge.proofs.Beginning.{finishes}
use Rattle.oc_judge.proofs.statement.finish.Goals as goal

pub returns-then-is_silent : goal.returns-then-is_silent
returns-then-is_silent c =
    let silent : c.is_silent.result ≡ true = search rules in
    finishes c.args.run.now c.args.statement c.args.behind.value (frames_view c.args.frames.now.items) (frames_view c.push_task.new.frames.items) c.args.completion c.args.store.now
    (c.is_silent.ensures silent) c.in_ok-push_task.ensures
