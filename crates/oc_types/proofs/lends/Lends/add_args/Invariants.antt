use Rattle.std.proofs.Common.{◌≡◌, ◌++◌, drop, map}
use Rattle.oc_tree.specs.Names.{names_seen}
use Rattle.oc_tree.specs.View.{args_view, function_view}
use Rattle.oc_types.specs.Shown.{args_assigned}
use Rattle.oc_types.proofs.lends.Lends.add_args.Given as goal

abbrev pub invariant-loop-place : goal.invariant-loop-place
invariant-loop-place l =
    names_seen l.names.items ++ args_assigned (map function_view l.self) l.callee l.place (args_view (drop l.place l.args))
    ≡ names_seen l.initial.names.items ++ args_assigned (map function_view l.self) l.callee 0 (args_view l.args)
