use Rattle.std.proofs.Common.{◌≡◌, drop, map}
use Rattle.oc_tree.specs.View.{args_view, function_view}
use Rattle.oc_tree.specs.Assigned.{args_assign}
use Rattle.oc_reach.proofs.assigned.Assigned.args_assign.Given as goal

abbrev pub invariant-loop-place : goal.invariant-loop-place
invariant-loop-place l =
    args_assign (map function_view l.self) l.name l.callee l.place (args_view (drop l.place l.args)) ≡ args_assign (map function_view l.self) l.name l.callee 0 (args_view l.args)
