use Rattle.std.proofs.Common.{◌≡◌, ◌++◌, ◌<◌, ◌^◌, drop, map, sum_by}
use Rattle.oc_tree.specs.View.{function_view}
use Rattle.oc_tree.specs.Nodes.{block_nodes}
use Rattle.oc_parse.specs.Collected.{functions_ifs_at}
use Rattle.oc_parse.proofs.atomics.program_ifs.Given as goal

abbrev pub invariant-loop-function : goal.invariant-loop-function
invariant-loop-function l = record {
  ifs : l.ifs.items ++ functions_ifs_at l.next (map function_view (drop l.function-index l.functions)) ≡ functions_ifs_at 1 (map function_view l.functions);
  nodes : sum_by (λ f. block_nodes f.body) (map function_view (drop l.function-index l.functions)) < 2 ^ 32;
}
