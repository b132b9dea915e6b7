use Rattle.std.proofs.Common.{◌≡◌, ◌++◌, drop, map}
use Rattle.oc_tree.specs.View.{function_view}
use Rattle.oc_tree.specs.Calls.{function_names}
use Rattle.oc_tree.specs.Names.{names_seen}
use Rattle.oc_names.proofs.table.function_table.Given as goal

abbrev pub invariant-loop-function : goal.invariant-loop-function
invariant-loop-function l =
    names_seen l.names.items ++ function_names (map function_view (drop l.function-index l.functions)) ≡ function_names (map function_view l.functions)
