use Rattle.std.proofs.Common.{◌≡◌, ◌+◌, drop}
use Rattle.oc_tree.specs.View.{args_view, call_view}
use Rattle.oc_tree.specs.Nodes.{args_nodes, call_nodes}
use Rattle.oc_tree.proofs.nodes.+expression_nodes.Given as goal

abbrev pub invariant-call_nodes-loop-arg : goal.invariant-call_nodes-loop-arg
invariant-call_nodes-loop-arg l =
    l.nodes + args_nodes (args_view (drop l.arg-index l.arg-items)) ≡ call_nodes (call_view l.call)
