use Rattle.std.proofs.Common.{◌≡◌, ◌++◌, drop}
use Rattle.std.specs.List.{flat_map}
use Rattle.oc_tree.specs.Calls.{own_calls}
use Rattle.oc_reach.specs.Views.{calls_seen, kinds_seen}
use Rattle.oc_reach.proofs.parts.kinds_calls.Given as goal

abbrev pub invariant-loop-kind : goal.invariant-loop-kind
invariant-loop-kind l = calls_seen l.calls.items ++ flat_map own_calls (kinds_seen (drop l.kind-index l.kinds)) ≡ flat_map own_calls (kinds_seen l.kinds)
