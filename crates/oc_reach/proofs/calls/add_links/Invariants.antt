use Rattle.std.proofs.Common.{◌≡◌, ◌++◌, drop, map}
use Rattle.oc_tree.specs.Calls.{called_places}
use Rattle.oc_reach.specs.Views.{calls_seen}
use Rattle.oc_reach.proofs.calls.add_links.Given as goal

abbrev pub invariant-loop-call : goal.invariant-loop-call
invariant-loop-call l =
    l.links.items ++ map (λ v. (l.caller, v)) (called_places l.table (calls_seen (drop l.call-index l.calls)))
    ≡ l.initial.links.items ++ map (λ v. (l.caller, v)) (called_places l.table (calls_seen l.calls))
