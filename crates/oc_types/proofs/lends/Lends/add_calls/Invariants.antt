use Rattle.std.proofs.Common.{◌≡◌, ◌++◌, drop, map}
use Rattle.std.specs.List.{flat_map}
use Rattle.oc_tree.specs.Names.{names_seen}
use Rattle.oc_tree.specs.View.{function_view}
use Rattle.oc_reach.specs.Views.{calls_seen}
use Rattle.oc_types.specs.Shown.{call_assigned}
use Rattle.oc_types.proofs.lends.Lends.add_calls.Given as goal

abbrev pub invariant-loop-call : goal.invariant-loop-call
invariant-loop-call l =
    names_seen l.names.items ++ flat_map (call_assigned (map function_view l.self)) (calls_seen (drop l.call-index l.calls))
    ≡ names_seen l.initial.names.items ++ flat_map (call_assigned (map function_view l.self)) (calls_seen l.calls)
