use Rattle.std.proofs.Common.{◌≡◌, drop, map}
use Rattle.std.specs.List.{list_any}
use Rattle.oc_tree.specs.View.{function_view}
use Rattle.oc_tree.specs.Assigned.{call_assigns}
use Rattle.oc_reach.specs.Views.{calls_seen}
use Rattle.oc_reach.proofs.assigned.Assigned.some_assigns.Given as goal

abbrev pub invariant-loop-call : goal.invariant-loop-call
invariant-loop-call l =
    list_any (call_assigns (map function_view l.self) l.name) (calls_seen (drop l.call-index l.calls)) ≡ list_any (call_assigns (map function_view l.self) l.name) (calls_seen l.calls)
