use Rattle.std.proofs.Common.{◌≡◌, drop}
use Rattle.std.specs.List.{list_any}
use Rattle.oc_tree.specs.View.{args_view, program_view}
use Rattle.oc_tree.specs.Rules.{arg_exposes, args_list}
use Rattle.oc_types.proofs.reach.args_expose.Given as goal

abbrev pub invariant-loop-arg : goal.invariant-loop-arg
invariant-loop-arg l =
    list_any (arg_exposes (program_view l.top) l.scope l.place) (args_list (args_view (drop l.arg-index l.args)))
    ≡ list_any (arg_exposes (program_view l.top) l.scope l.place) (args_list (args_view l.args))
