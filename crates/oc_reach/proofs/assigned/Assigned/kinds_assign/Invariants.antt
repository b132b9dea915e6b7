use Rattle.std.proofs.Common.{◌≡◌, drop, map}
use Rattle.std.specs.List.{list_any}
use Rattle.oc_tree.specs.View.{function_view}
use Rattle.oc_tree.specs.Assigned.{own_assigns}
use Rattle.oc_reach.specs.Views.{kinds_seen}
use Rattle.oc_reach.proofs.assigned.Assigned.kinds_assign.Given as goal

abbrev pub invariant-loop-kind : goal.invariant-loop-kind
invariant-loop-kind l =
    list_any (own_assigns (map function_view l.self) l.name) (kinds_seen (drop l.kind-index l.kinds)) ≡ list_any (own_assigns (map function_view l.self) l.name) (kinds_seen l.kinds)
