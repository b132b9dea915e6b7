use Rattle.std.proofs.Common.{rules, ◌≡◌, ◌+◌, ap, ◌∙◌, slice_index_or, slice_set}
use Rattle.oc_judge.specs.Passes.{more_times}
use Rattle.oc_judge.proofs.Tallies.{added}
use Rattle.oc_judge.proofs.executed.Executed.add_times.Goals as goal

pub returns : goal.returns
returns c =
    let b = c.args.block in
    let n = c.args.times in
    let grown = c.grow.new.counts.items in
    let e : c.in_ok-count.count ≡ slice_index_or grown b 0 + n = search rules in
    ap (slice_set grown b) e ∙ added n b c.self.inside.counts.items grown c.requires c.in_ok-grow.ensures.within c.in_ok-grow.ensures.same ∙ ap (more_times n b) c.self.view_is
