use Rattle.std.proofs.Common.{◌≡◌, ◌++◌, map, drop}
use Rattle.oc_needs.specs.View.{requirement_view}
use Rattle.oc_needs.specs.Code.{required_by_from}
use Rattle.oc_needs.proofs.required.required_by.Given as goal

abbrev pub invariant-loop-number : goal.invariant-loop-number
invariant-loop-number l =
    map requirement_view l.required.items ++ required_by_from l.summaries.program l.number (drop l.number l.policies) ≡ required_by_from l.summaries.program 0 l.policies
