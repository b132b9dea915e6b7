use Rattle.std.proofs.Common.{◌≡◌, ◌++◌, drop, map}
use Rattle.oc_tree.specs.View.{function_view}
use Rattle.oc_tree.specs.Assigned.{function_assigns}
use Rattle.oc_reach.proofs.assigned.Assigned.tests.Given as goal

abbrev pub invariant-loop-function : goal.invariant-loop-function
invariant-loop-function l =
    l.tests.items ++ map (function_assigns (map function_view l.self) l.name) (map function_view (drop l.function-index l.functions))
    ≡ map (function_assigns (map function_view l.self) l.name) (map function_view l.functions)
