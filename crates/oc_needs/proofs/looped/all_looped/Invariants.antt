use Rattle.std.proofs.Common.{◌≡◌, map}
use Rattle.oc_flow.specs.Variables.{from}
use Rattle.oc_needs.specs.Code.{looped_at}
use Rattle.oc_needs.specs.CodeView.{tables_view}
use Rattle.oc_needs.proofs.looped.all_looped.Given as goal

abbrev pub invariant-loop-function : goal.invariant-loop-function
invariant-loop-function l = tables_view l.tables.items ≡ map (looped_at l.summaries.program) (from 0 l.function)
