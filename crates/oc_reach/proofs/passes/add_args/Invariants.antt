use Rattle.std.proofs.Common.{◌≡◌, ◌++◌, drop, map}
use Rattle.oc_tree.specs.View.{args_view, function_view}
use Rattle.oc_tree.specs.Assigned.{args_links}
use Rattle.oc_reach.proofs.passes.add_args.Given as goal

abbrev pub invariant-loop-place : goal.invariant-loop-place
invariant-loop-place l =
    l.links.items ++ args_links (map function_view l.params) l.first l.names l.callee l.place (args_view (drop l.place l.args))
    ≡ l.initial.links.items ++ args_links (map function_view l.params) l.first l.names l.callee 0 (args_view l.args)
