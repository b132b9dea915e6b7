use Rattle.std.proofs.Common.{◌≡◌, map, drop}
use Rattle.oc_tree.specs.View.{function_view}
use Rattle.oc_meaning.specs.Run.{function_named}
use Rattle.oc_meaning.proofs.names.function_named.Given as goal

abbrev pub invariant-loop-function : goal.invariant-loop-function
invariant-loop-function l = function_named (map function_view (drop l.function-index l.functions)) l.name ≡ function_named (map function_view l.functions) l.name
