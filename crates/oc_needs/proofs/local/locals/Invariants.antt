use Rattle.std.proofs.Common.{◌≡◌, map}
use Rattle.oc_flow.specs.Variables.{from}
use Rattle.oc_needs.specs.Code.{local_at}
use Rattle.oc_needs.specs.CodeView.{local_view}
use Rattle.oc_needs.proofs.local.locals.Given as goal

abbrev pub invariant-loop-function : goal.invariant-loop-function
invariant-loop-function l = map local_view l.locals.items ≡ map (local_at l.summaries.program) (from 0 l.function)
