use Rattle.std.proofs.Common.{◌≡◌, ◌+◌, ◌++◌, drop, map, sum_by}
use Rattle.oc_tree.specs.View.{function_view}
use Rattle.oc_tree.specs.Expansion.{block_size, functions_groups}
use Rattle.oc_desugar.proofs.groups.functions_groups.Given as goal

abbrev pub invariant-loop-function : goal.invariant-loop-function
invariant-loop-function l = record {
  groups : l.groups.items ++ functions_groups l.next (map function_view (drop l.function-index l.functions)) ≡ functions_groups 1 (map function_view l.functions);
  next : l.next + sum_by (λ f. block_size f.body) (map function_view (drop l.function-index l.functions)) ≡ 1 + sum_by (λ f. block_size f.body) (map function_view l.functions);
}
