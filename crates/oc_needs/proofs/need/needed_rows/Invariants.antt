use Rattle.std.proofs.Common.{◌≡◌}
use Rattle.oc_needs.specs.Code.{level_at}
use Rattle.oc_needs.specs.CodeView.{level_view}
use Rattle.oc_needs.proofs.need.needed_rows.Given as goal

abbrev pub invariant-loop-depth : goal.invariant-loop-depth
invariant-loop-depth l = level_view l.level ≡ level_at l.summaries.program l.asked.policy l._depth
