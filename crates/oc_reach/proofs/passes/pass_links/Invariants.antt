use Rattle.std.proofs.Common.{◌≡◌, ◌++◌, drop, map}
use Rattle.oc_tree.specs.View.{function_view}
use Rattle.oc_tree.specs.Assigned.{pass_links, pass_links_from}
use Rattle.oc_reach.proofs.passes.pass_links.Given as goal

abbrev pub invariant-loop-i : goal.invariant-loop-i
invariant-loop-i l =
    l.links.items ++ pass_links_from (map function_view l.functions) l.i (map function_view (drop l.i l.functions)) ≡ pass_links (map function_view l.functions)
