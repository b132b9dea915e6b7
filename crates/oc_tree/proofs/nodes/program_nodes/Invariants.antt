use Rattle.std.proofs.Common.{◌≡◌, ◌+◌, drop, map, sum_by}
use Rattle.oc_tree.specs.View.{function_view, program_view}
use Rattle.oc_tree.specs.Nodes.{block_nodes, program_nodes}
use Rattle.oc_tree.proofs.nodes.program_nodes.Given as goal

abbrev pub invariant-loop-function : goal.invariant-loop-function
invariant-loop-function l =
    l.nodes + sum_by (λ f. block_nodes f.body) (map function_view (drop l.function-index l.function-items)) ≡ program_nodes (program_view l.program)
