use Rattle.std.proofs.Common.{◌≡◌, drop}
use Rattle.oc_tree.specs.View.{args_view, program_view}
use Rattle.oc_tree.specs.Walks.{args_known}
use Rattle.oc_types.proofs.known.+known.Given as goal

abbrev pub invariant-call_known-loop-arg : goal.invariant-call_known-loop-arg
invariant-call_known-loop-arg l =
    args_known (program_view l.top) l.scope (args_view (drop l.arg-index l.arg-items)) ≡ args_known (program_view l.top) l.scope (args_view l.arg-items)
