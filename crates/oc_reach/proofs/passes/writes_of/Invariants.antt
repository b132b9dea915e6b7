use Rattle.std.proofs.Common.{◌≡◌, ◌++◌, drop, map}
use Rattle.oc_tree.specs.View.{function_view}
use Rattle.oc_tree.specs.Assigned.{writes_from}
use Rattle.oc_reach.proofs.passes.writes_of.Given as goal

abbrev pub invariant-loop-i : goal.invariant-loop-i
invariant-loop-i l =
    l.writes.items ++ writes_from (map function_view l.functions) l.i (map function_view (drop l.i l.functions)) ≡ writes_from (map function_view l.functions) 0 (map function_view l.functions)
