use Rattle.std.proofs.Common.{◌≡◌, ◌+◌, ◌++◌, drop, map, vec_len}
use Rattle.oc_tree.specs.View.{function_view}
use Rattle.oc_tree.specs.Assigned.{first_params, param_count}
use Rattle.oc_reach.proofs.params.first_params.Given as goal

abbrev pub invariant-loop-function : goal.invariant-loop-function
invariant-loop-function l = record {
  firsts : l.firsts.items ++ first_params (vec_len l.all) (map function_view (drop l.function-index l.functions)) ≡ first_params 0 (map function_view l.functions);
  count : vec_len l.all + param_count (map function_view (drop l.function-index l.functions)) ≡ param_count (map function_view l.functions);
}
