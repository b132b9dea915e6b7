use Rattle.std.proofs.Common.{rules}
use Rattle.oc_judge.specs.Frames.{frames_view}
use Rattle.oc_judge.proofs.work.right.Goals as goal

pub returns-in_ok-completion-in-Value : goal.returns-in_ok-completion-in-Value
returns-in_ok-completion-in-Value c = let e = c.in_ok-completion-in-Value.ensures (frames_view c.args.frames.now.items) in search rules
