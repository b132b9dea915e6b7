use Rattle.std.proofs.Common.{◌≡◌, ◌++◌, drop, map}
use Rattle.oc_tree.specs.View.{function_view}
use Rattle.oc_tree.specs.Calls.{links_from}
use Rattle.oc_reach.proofs.calls.call_links.Given as goal

abbrev pub invariant-loop-i : goal.invariant-loop-i
invariant-loop-i l =
    l.links.items ++ links_from l.table l.i (map function_view (drop l.i l.functions)) ≡ links_from l.table 0 (map function_view l.functions)
