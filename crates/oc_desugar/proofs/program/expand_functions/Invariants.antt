use Rattle.std.proofs.Common.{◌≡◌, ◌+◌, ◌++◌, drop, map, sum_by}
use Rattle.oc_tree.specs.View.{function_view}
use Rattle.oc_tree.specs.Expansion.{block_size, expand_functions}
use Rattle.oc_tree.specs.Pulls.{block_pulls}
use Rattle.oc_desugar.proofs.program.expand_functions.Given as goal

abbrev pub invariant-loop-function : goal.invariant-loop-function
invariant-loop-function l = record {
  expanded : map function_view l.out.items ++ expand_functions l.n.pull l.n.stmt (map function_view (drop l.function-index l.functions)) ≡ expand_functions 1 1 (map function_view l.functions);
  pulls : l.n.pull + sum_by (λ f. block_pulls f.body) (map function_view (drop l.function-index l.functions)) ≡ 1 + sum_by (λ f. block_pulls f.body) (map function_view l.functions);
  stmts : l.n.stmt + sum_by (λ f. block_size f.body) (map function_view (drop l.function-index l.functions)) ≡ 1 + sum_by (λ f. block_size f.body) (map function_view l.functions);
}
