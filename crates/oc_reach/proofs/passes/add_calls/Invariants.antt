use Rattle.std.proofs.Common.{◌≡◌, ◌++◌, drop, map}
use Rattle.std.specs.List.{flat_map}
use Rattle.oc_tree.specs.View.{function_view}
use Rattle.oc_tree.specs.Assigned.{pass_call}
use Rattle.oc_reach.specs.Views.{calls_seen}
use Rattle.oc_reach.proofs.passes.add_calls.Given as goal

abbrev pub invariant-loop-call : goal.invariant-loop-call
invariant-loop-call l =
    l.links.items ++ flat_map (pass_call (map function_view l.params) l.first l.names) (calls_seen (drop l.call-index l.body))
    ≡ l.initial.links.items ++ flat_map (pass_call (map function_view l.params) l.first l.names) (calls_seen l.body)
