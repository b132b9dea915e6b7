use Rattle.std.proofs.Common.{◌≡◌, ◌++◌, drop, map}
use Rattle.oc_tree.specs.View.{function_view}
use Rattle.oc_types.specs.Shown.{all_names, assigned_names, function_shown}
use Rattle.oc_types.proofs.uses.add_functions.Given as goal

abbrev pub invariant-loop-function : goal.invariant-loop-function
invariant-loop-function l = record {
  named : l.named.items ++ map (function_shown all_names) (map function_view (drop l.function-index l.functions))
      ≡ l.initial.named.items ++ map (function_shown all_names) (map function_view l.functions);
  assigned : l.assigned.items ++ map (function_shown (assigned_names (map function_view l.lends))) (map function_view (drop l.function-index l.functions))
      ≡ l.initial.assigned.items ++ map (function_shown (assigned_names (map function_view l.lends))) (map function_view l.functions);
}
