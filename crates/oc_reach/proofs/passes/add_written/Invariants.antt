use Rattle.std.proofs.Common.{◌≡◌, ◌++◌, drop, option_to_list}
use Rattle.std.specs.List.{flat_map}
use Rattle.oc_tree.specs.Assigned.{own_param, written_through}
use Rattle.oc_reach.specs.Views.{kinds_seen}
use Rattle.oc_reach.proofs.passes.add_written.Given as goal

abbrev pub invariant-loop-kind : goal.invariant-loop-kind
invariant-loop-kind l =
    l.writes.items ++ flat_map (λ k. option_to_list (own_param l.first l.names (written_through k))) (kinds_seen (drop l.kind-index l.kinds))
    ≡ l.initial.writes.items ++ flat_map (λ k. option_to_list (own_param l.first l.names (written_through k))) (kinds_seen l.kinds)
