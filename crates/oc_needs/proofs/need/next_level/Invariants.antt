use Rattle.std.proofs.Common.{◌≡◌, map}
use Rattle.oc_flow.specs.Variables.{from}
use Rattle.oc_needs.specs.Code.{next_row, is_row_changed}
use Rattle.oc_needs.specs.CodeView.{rows_view, level_view}
use Rattle.oc_needs.proofs.need.next_level.Given as goal

abbrev pub invariant-loop-function : goal.invariant-loop-function
invariant-loop-function l =
    (rows_view l.rows.items ≡ map (next_row l.summaries.program l.asked.policy (level_view l.old)) (from 0 l.function)) ×
    (l.changed.items ≡ map (is_row_changed l.summaries.program l.asked.policy (level_view l.old)) (from 0 l.function))
