use Rattle.std.proofs.Common.{◌≡◌, map}
use Rattle.oc_flow.specs.Variables.{from}
use Rattle.oc_needs.specs.Code.{no_row}
use Rattle.oc_needs.specs.CodeView.{rows_view}
use Rattle.oc_needs.proofs.need.start.Given as goal

abbrev pub invariant-loop-function : goal.invariant-loop-function
invariant-loop-function l = rows_view l.rows.items ≡ map no_row (from 0 l._function)
