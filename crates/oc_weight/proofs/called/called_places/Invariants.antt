use Rattle.std.proofs.Common.{◌≡◌, ◌++◌, drop}
use Rattle.oc_tree.specs.Calls.{called_places}
use Rattle.oc_reach.specs.Views.{calls_seen}
use Rattle.oc_weight.proofs.called.called_places.Given as goal

abbrev pub invariant-loop-call : goal.invariant-loop-call
invariant-loop-call l = l.places.items ++ called_places l.table (calls_seen (drop l.call-index l.calls)) ≡ called_places l.table (calls_seen l.calls)
