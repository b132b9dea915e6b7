use Rattle.std.proofs.Common.{◌≡◌, ◌++◌, map}
use Rattle.oc_flow.specs.Variables.{from}
use Rattle.oc_needs.specs.View.{requirement_view}
use Rattle.oc_needs.specs.Code.{required_rows}
use Rattle.oc_needs.specs.CodeView.{rows_view}
use Rattle.oc_needs.proofs.required.add_of_policy.Given as goal

abbrev pub invariant-loop-function : goal.invariant-loop-function
invariant-loop-function l =
    map requirement_view l.required.items ≡ map requirement_view l.initial.required.items ++ required_rows l.summaries.program l.policy l.asked.policy (rows_view l.rows.items) (from 0 l.function)
